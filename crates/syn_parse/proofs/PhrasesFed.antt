-- A phrase that stands in the reader before all others may as well have gone on already.
use Rattle.std.proofs.Common.{◌≡◌, ℕ, List, [], ◌∷◌, ◌++◌, Option, None, Some, Result, Ok, Err, OnOk, append-nil, option_and_then, option_map, refl, sym, ◌∙◌, ap, subst}
use Rattle.syn_form.specs.declared.syntax.Mark.TheVariants as mark
use Rattle.syn_form.specs.declared.syntax.Lexeme.{Lexeme}
use Rattle.syn_form.specs.declared.syntax.Lexeme.TheVariants as lexeme
use Rattle.syn_form.specs.declared.syntax.Quantifier.{Quantifier}
use Rattle.syn_form.specs.declared.syntax.BinderSyntax.{BinderSyntax}
use Rattle.syn_parse.specs.declared.items.Item.{Item}
use Rattle.syn_parse.specs.declared.item_reader.ItemReader.{ItemReader}
use Rattle.syn_parse.specs.declared.phrase_reader.Phrase.{Phrase}
use Rattle.syn_parse.specs.declared.phrase_reader.Phrase.TheVariants as phrase
use Rattle.syn_parse.specs.declared.phrase_reader.Binding.{Binding}
use Rattle.syn_parse.specs.declared.phrase_reader.BinderStage.{BinderStage}
use Rattle.syn_parse.specs.declared.phrase_reader.BinderStage.TheVariants as stage
use Rattle.syn_parse.specs.declared.phrase_reader.PhraseReader.{PhraseReader}
use Rattle.syn_parse.specs.declared.stop.Stop.{Stop}
use Rattle.syn_parse.specs.declared.stop.Stop.TheVariants as stop
use Rattle.syn_parse.specs.inner.Feeding.{Keeps, fed, told}
use Rattle.syn_parse.specs.inner.Leads.{Leads}
use Rattle.syn_parse.specs.inner.PhraseMachine.{closed, word, outside, name_next, colon_next, sort_of, holds, with_binder, sort_next, stop_next, at, step_at, step, run, ended}

abbrev reader : List Phrase → Option Binding → PhraseReader
reader done pending = record { done = done; pending = pending }

module _ (p : Phrase) where
  -- the reader with this phrase before all others
  abbrev pre : PhraseReader → PhraseReader
  pre r = reader (p ∷ r.done) r.pending

  outside_pre : (done : List Phrase) (l : Lexeme) → outside (p ∷ done) l ≡ pre (outside done l)
  outside_pre done (lexeme.Fixed mark.ForAll) = refl
  outside_pre done (lexeme.Fixed mark.ForSome) = refl
  outside_pre done (lexeme.Fixed _) = refl
  outside_pre done (lexeme.Number n) = refl
  outside_pre done (lexeme.RowVar n s) = refl
  outside_pre done (lexeme.Name x) = refl
  outside_pre done (lexeme.Skolem x) = refl

  module _ (done : List Phrase) (q : Quantifier) (binders : List BinderSyntax) where
    name_pre : (l : Lexeme) → name_next (p ∷ done) q binders l ≡ option_map pre (name_next done q binders l)
    name_pre (lexeme.Name x) = refl
    name_pre (lexeme.Fixed m) = refl
    name_pre (lexeme.Number n) = refl
    name_pre (lexeme.RowVar n s) = refl
    name_pre (lexeme.Skolem x) = refl

    colon_pre : (x : List ℕ) (l : Lexeme) → colon_next (p ∷ done) q binders x l ≡ option_map pre (colon_next done q binders x l)
    colon_pre x (lexeme.Fixed mark.Colon) = refl
    colon_pre x (lexeme.Fixed _) = refl
    colon_pre x (lexeme.Name y) = refl
    colon_pre x (lexeme.Number n) = refl
    colon_pre x (lexeme.RowVar n s) = refl
    colon_pre x (lexeme.Skolem y) = refl

    sort_pre : (x : List ℕ) (l : Lexeme) → sort_next (p ∷ done) q binders x l ≡ option_map pre (sort_next done q binders x l)
    sort_pre x l = go (sort_of l)
      where
        go : (o : Option (List ℕ)) → option_map (λ s. holds (p ∷ done) q (with_binder binders x s) stage.Next) o ≡ option_map pre (option_map (λ s. holds done q (with_binder binders x s) stage.Next) o)
        go None = refl
        go (Some s) = refl

    stop_pre : (l : Lexeme) → stop_next (p ∷ done) q binders l ≡ option_map pre (stop_next done q binders l)
    stop_pre (lexeme.Fixed mark.Comma) = refl
    stop_pre (lexeme.Fixed mark.Dot) = refl
    stop_pre (lexeme.Fixed _) = refl
    stop_pre (lexeme.Name y) = refl
    stop_pre (lexeme.Number n) = refl
    stop_pre (lexeme.RowVar n s) = refl
    stop_pre (lexeme.Skolem y) = refl

    at_pre : (s : BinderStage) (l : Lexeme) → at (p ∷ done) q binders s l ≡ option_map pre (at done q binders s l)
    at_pre stage.Name l = name_pre l
    at_pre (stage.Colon x) l = colon_pre x l
    at_pre (stage.Sort x) l = sort_pre x l
    at_pre stage.Next l = stop_pre l

  step_at_pre : (pending : Option Binding) (done : List Phrase) (l : Lexeme) → step_at pending (p ∷ done) l ≡ option_map pre (step_at pending done l)
  step_at_pre None done l = ap (λ (z : PhraseReader). Some z) (outside_pre done l)
  step_at_pre (Some b) done l = at_pre done b.quantifier b.binders b.stage l

  ended_pre : (pending : Option Binding) (done : List Phrase) → ended (reader (p ∷ done) pending) ≡ option_map (λ (ps : List Phrase). p ∷ ps) (ended (reader done pending))
  ended_pre None done = refl
  ended_pre (Some b) done = refl

  -- all that is read behind it
  whole_pre : (ls : List Lexeme) (r : PhraseReader) → option_and_then ended (run ls (pre r)) ≡ option_map (λ (ps : List Phrase). p ∷ ps) (option_and_then ended (run ls r))
  whole_pre [] r = ended_pre r.pending r.done
  whole_pre (l ∷ ls) r = ap (λ (o : Option PhraseReader). option_and_then ended (option_and_then (run ls) o)) (step_at_pre r.pending r.done l) ∙ go (λ s. whole_pre ls s) (step r l)
    where
      go : ((s : PhraseReader) → option_and_then ended (run ls (pre s)) ≡ option_map (λ (ps : List Phrase). p ∷ ps) (option_and_then ended (run ls s))) → (o : Option PhraseReader) → option_and_then ended (option_and_then (run ls) (option_map pre o)) ≡ option_map (λ (ps : List Phrase). p ∷ ps) (option_and_then ended (option_and_then (run ls) o))
      go h None = refl
      go h (Some s) = h s

-- the phrases that are ready stand before those of the rest
whole_behind : (ls : List Lexeme) (pending : Option Binding) (ready : List Phrase) → option_and_then ended (run ls (reader ready pending)) ≡ option_map (λ (ps : List Phrase). ready ++ ps) (option_and_then ended (run ls (reader [] pending)))
whole_behind ls pending [] = go (option_and_then ended (run ls (reader [] pending)))
  where
    go : (o : Option (List Phrase)) → o ≡ option_map (λ (ps : List Phrase). ps) o
    go None = refl
    go (Some ps) = refl
whole_behind ls pending (p ∷ ready) = whole_pre p ls (reader ready pending) ∙ (ap (option_map (λ (ps : List Phrase). p ∷ ps)) (whole_behind ls pending ready) ∙ go (option_and_then ended (run ls (reader [] pending))))
  where
    go : (o : Option (List Phrase)) → option_map (λ (ps : List Phrase). p ∷ ps) (option_map (λ (ps : List Phrase). ready ++ ps) o) ≡ option_map (λ (ps : List Phrase). p ∷ (ready ++ ps)) o
    go None = refl
    go (Some ps) = refl

-- at the end the phrases that are left are all
left_fed : {S : Type 0} (takes : S → Item → Option S) (s : S) (r : ItemReader) (p : PhraseReader) → Some p.done ≡ ended p → told takes s r p [] ≡ fed takes s r (p.done ++ [])
left_fed takes s r p one = ap (option_and_then (fed takes s r)) (sym one) ∙ ap (fed takes s r) (sym (append-nil p.done))

module _ {S A : Type 0} (takes : S → Item → Option S) (s t : S) (r q : ItemReader) where
  -- what the phrases lead to, over all that may follow
  all_kept : (result : Result A Stop) (ready : List Phrase) → ((more : List Phrase) → Keeps result (fed takes s r (ready ++ more)) (fed takes t q more)) → (o : Option (List Phrase)) → Keeps result (option_and_then (fed takes s r) (option_map (λ (ps : List Phrase). ready ++ ps) o)) (option_and_then (fed takes t q) o)
  all_kept (Ok a) ready h None = refl
  all_kept (Ok a) ready h (Some ps) = h ps
  all_kept (Err stop.Misplaced) ready h None = refl
  all_kept (Err stop.Misplaced) ready h (Some ps) = h ps
  all_kept (Err stop.NoMemory) ready h o = tt

  kept_from : (result : Result A Stop) (a b c : Option S) → a ≡ b → Keeps result b c → Keeps result a c
  kept_from (Ok x) a b c e h = e ∙ h
  kept_from (Err stop.Misplaced) a b c e h = e ∙ h
  kept_from (Err stop.NoMemory) a b c e h = tt

  -- one lexeme more: the phrases that its step made ready have gone on
  pub lexeme_fed : (p x : PhraseReader) (l : Lexeme) (more : List Lexeme) (result : Result A Stop) (left : List Phrase) → Some x ≡ step p l → ((ms : List Phrase) → Keeps result (fed takes s r (x.done ++ ms)) (fed takes t q ms)) → OnOk result (left ≡ []) → Keeps result (told takes s r p (l ∷ more)) (told takes t q (reader left x.pending) more)
  lexeme_fed p x l more result left one h rest = by result h rest
    where
      before : told takes s r p (l ∷ more) ≡ option_and_then (fed takes s r) (option_map (λ (ps : List Phrase). x.done ++ ps) (option_and_then ended (run more (reader [] x.pending))))
      before = ap (λ (o : Option PhraseReader). option_and_then (fed takes s r) (option_and_then ended (option_and_then (run more) o))) (sym one) ∙ ap (option_and_then (fed takes s r)) (whole_behind more x.pending x.done)

      by : (z : Result A Stop) → ((ms : List Phrase) → Keeps z (fed takes s r (x.done ++ ms)) (fed takes t q ms)) → OnOk z (left ≡ []) → Keeps z (told takes s r p (l ∷ more)) (told takes t q (reader left x.pending) more)
      by (Ok a) h rest = before ∙ (all_kept (Ok a) x.done h (option_and_then ended (run more (reader [] x.pending))) ∙ ap (λ (z : List Phrase). told takes t q (reader z x.pending) more) (sym rest))
      by (Err stop.Misplaced) h rest = before ∙ all_kept (Err stop.Misplaced) x.done h (option_and_then ended (run more (reader [] x.pending)))
      by (Err stop.NoMemory) h rest = tt

  -- a word that is a phrase by itself goes on at once
  pub plain_fed : (p : PhraseReader) (l : Lexeme) (more : List Lexeme) (result : Result A Stop) → p ≡ closed [] → step p l ≡ Some (word [] l) → ((ms : List Phrase) → Keeps result (fed takes s r (phrase.Word l ∷ ms)) (fed takes t q ms)) → Keeps result (told takes s r p (l ∷ more)) (told takes t q p more)
  plain_fed p l more result is one h = subst (λ (z : PhraseReader). Keeps result (told takes s r p (l ∷ more)) (told takes t q z more)) (sym is) (lexeme_fed p (word [] l) l more result [] (sym one) h (none_left result))
    where
      none_left : (z : Result A Stop) → OnOk z (◌≡◌ {A = List Phrase} [] [])
      none_left (Ok a) = refl
      none_left (Err e) = tt

  -- the end: the phrases that are left have gone on
  module _ (p : PhraseReader) (one : Some p.done ≡ ended p) where
    pub ended_fed : (result : Result A Stop) (final : S) → fed takes s r (p.done ++ []) ≡ fed takes t q [] → Leads result final (fed takes t q []) → Leads result final (told takes s r p [])
    ended_fed result final e h = subst (Leads result final) (sym (left_fed takes s r p one ∙ e)) h

    pub unended_fed : (result : Result A Stop) (e : Stop) (final : S) → result ≡ Err e → Keeps result (fed takes s r (p.done ++ [])) (fed takes t q []) → Leads {A = A} (Err e) final (told takes s r p [])
    unended_fed result e final is h = by e (subst (λ (z : Result A Stop). Keeps z (fed takes s r (p.done ++ [])) (fed takes t q [])) is h)
      where
        by : (e : Stop) → Keeps {A = A} (Err e) (fed takes s r (p.done ++ [])) (fed takes t q []) → Leads {A = A} (Err e) final (told takes s r p [])
        by stop.Misplaced h = sym (left_fed takes s r p one ∙ h)
        by stop.NoMemory h = tt
