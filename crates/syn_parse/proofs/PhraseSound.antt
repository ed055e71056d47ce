-- The phrases of a text have the text's words: what the reader of quantifiers holds is made of the words read so far.
use Rattle.std.proofs.Common.{◌≡◌, ℕ, Bool, true, false, if◌then◌else◌, List, [], ◌∷◌, ◌++◌, map, All, Option, None, Some, codes, refl, sym, ◌∙◌, ap, subst, append_assoc, append-nil}
use Rattle.std.proofs.lemmas.Option.{option_and_then_some}
use Rattle.std.proofs.lemmas.Grind.{flat_map-append}
use Rattle.std.proofs.lemmas.List.Elements.{All-head, All-tail}
use Rattle.std.proofs.lemmas.Slice.Eq.{bytes_eq-Decides}
use Rattle.std.specs.Str.{bytes_eq}
use Rattle.std.specs.Bool.{Decides}
use Rattle.syn_form.specs.declared.syntax.Mark.TheVariants as mark
use Rattle.syn_form.specs.declared.syntax.Lexeme.{Lexeme}
use Rattle.syn_form.specs.declared.syntax.Lexeme.TheVariants as lexeme
use Rattle.syn_form.specs.declared.syntax.Quantifier.{Quantifier}
use Rattle.syn_form.specs.declared.syntax.BinderSyntax.{BinderSyntax}
use Rattle.syn_form.specs.Grammar.{fixed, with_commas, quantifier_mark, sort_lexeme, words_of_binder}
use Rattle.syn_parse.specs.declared.phrase_reader.Phrase.{Phrase}
use Rattle.syn_parse.specs.declared.phrase_reader.Phrase.TheVariants as phrase
use Rattle.syn_parse.specs.declared.phrase_reader.BinderStage.{BinderStage}
use Rattle.syn_parse.specs.declared.phrase_reader.BinderStage.TheVariants as stage
use Rattle.syn_parse.specs.declared.phrase_reader.Binding.{Binding}
use Rattle.syn_parse.specs.declared.phrase_reader.PhraseReader.{PhraseReader}
use Rattle.syn_parse.specs.inner.PhraseMachine.{words_of_phrase, words_of_phrases, closed, holds, at, outside, name_next, colon_next, with_binder, sort_next, stop_next, step, step_at, run, ended, ended_at, phrases_of}
use Rattle.syn_parse.specs.inner.Spelling.{NotNat}
use Rattle.syn_parse.proofs.Commas.{before_next, commas-last, comma_behind-last}

pub words_of_phrases-append : (xs ys : List Phrase) → words_of_phrases (xs ++ ys) ≡ words_of_phrases xs ++ words_of_phrases ys
words_of_phrases-append = flat_map-append words_of_phrase

pub words_of_phrases-last : (xs : List Phrase) (p : Phrase) → words_of_phrases (xs ++ p ∷ []) ≡ words_of_phrases xs ++ words_of_phrase p
words_of_phrases-last xs p = words_of_phrases-append xs (p ∷ []) ∙ ap (λ (z : List Lexeme). words_of_phrases xs ++ z) (append-nil (words_of_phrase p))

-- the words of a quantifier's binders so far
abbrev told_binders : List BinderSyntax → BinderStage → List Lexeme
told_binders bs stage.Name = before_next words_of_binder bs
told_binders bs (stage.Colon x) = before_next words_of_binder bs ++ lexeme.Name x ∷ []
told_binders bs (stage.Sort x) = before_next words_of_binder bs ++ (lexeme.Name x ∷ fixed mark.Colon ∷ [])
told_binders bs stage.Next = with_commas (map words_of_binder bs)

abbrev told_at : List Phrase → Option Binding → List Lexeme
told_at done None = words_of_phrases done
told_at done (Some b) = words_of_phrases done ++ fixed (quantifier_mark b.quantifier) ∷ told_binders b.binders b.stage

abbrev told : PhraseReader → List Lexeme
told r = told_at r.done r.pending

-- behind a sort there is a binder
abbrev FineStage : List BinderSyntax → BinderStage → Type 0
FineStage bs stage.Next = (cs : List BinderSyntax) × (b : BinderSyntax) × (bs ≡ cs ++ b ∷ [])
FineStage bs _ = Unit {0}

abbrev FineBinding : Option Binding → Type 0
FineBinding None = Unit {0}
FineBinding (Some b) = FineStage b.binders b.stage

-- what is held after one word more
record After (words : List Lexeme) (l : Lexeme) (r : PhraseReader) : Type 0 where
  is : told r ≡ words ++ l ∷ []
  fine : FineBinding r.pending

no_nat : (b : Bool) (s : List ℕ) → Decides b (s ≡ codes "nat") → (s ≡ codes "nat" → ⊥) → b ≡ false
no_nat true s d h = absurd (h (d.0 refl))
no_nat false s d h = refl

-- a sort that isn't `nat` is a name
named_sort : (x s : List ℕ) → (s ≡ codes "nat" → ⊥) → sort_lexeme (record { name = x; sort = s }) ≡ lexeme.Name s
named_sort x s h = ap (λ (z : Bool). if z then fixed mark.Nat else lexeme.Name s) (no_nat (bytes_eq s (codes "nat")) s (bytes_eq-Decides s (codes "nat")) h)

comma_behind : (bs cs : List BinderSyntax) (b : BinderSyntax) → bs ≡ cs ++ b ∷ [] → before_next words_of_binder bs ≡ with_commas (map words_of_binder bs) ++ fixed mark.Comma ∷ []
comma_behind bs cs b e = subst (λ (z : List BinderSyntax). before_next words_of_binder z ≡ with_commas (map words_of_binder z) ++ fixed mark.Comma ∷ []) (sym e) (comma_behind-last words_of_binder cs b)

-- a quantifier that is open

some_same : (words : List Lexeme) (l : Lexeme) (s r : PhraseReader) → Some s ≡ Some r → After words l s → After words l r
some_same words l s r e a = let is : s ≡ r = cc in subst (λ (z : PhraseReader). After words l z) is a

module _ (done : List Phrase) where
  outside_sound : (l : Lexeme) → After (words_of_phrases done) l (outside done l)
  outside_sound (lexeme.Fixed mark.ForAll) = record { is = refl; fine = tt }
  outside_sound (lexeme.Fixed mark.ForSome) = record { is = refl; fine = tt }
  outside_sound (lexeme.Fixed m) = record { is = words_of_phrases-last done (phrase.Word (lexeme.Fixed m)); fine = tt }
  outside_sound l = record { is = words_of_phrases-last done (phrase.Word l); fine = tt }

  module _ (q : Quantifier) (bs : List BinderSyntax) where
    abbrev so_far : BinderStage → List Lexeme
    so_far s = told (holds done q bs s)

    -- one word more behind the quantifier's own
    more : (here next : List Lexeme) (l : Lexeme) → next ≡ here ++ l ∷ [] → words_of_phrases done ++ fixed (quantifier_mark q) ∷ next ≡ (words_of_phrases done ++ fixed (quantifier_mark q) ∷ here) ++ l ∷ []
    more here next l e = ap (λ (z : List Lexeme). words_of_phrases done ++ fixed (quantifier_mark q) ∷ z) e ∙ sym (append_assoc (words_of_phrases done) (fixed (quantifier_mark q) ∷ here) (l ∷ []))

    name_sound : (l : Lexeme) (r : PhraseReader) → name_next done q bs l ≡ Some r → After (so_far stage.Name) l r
    name_sound (lexeme.Name x) r e = some_same (so_far stage.Name) (lexeme.Name x) (holds done q bs (stage.Colon x)) r e (record { is = more (before_next words_of_binder bs) (before_next words_of_binder bs ++ lexeme.Name x ∷ []) (lexeme.Name x) refl; fine = tt })
    name_sound _ r e = absurd (cc)

    colon_sound : (x : List ℕ) (l : Lexeme) (r : PhraseReader) → colon_next done q bs x l ≡ Some r → After (so_far (stage.Colon x)) l r
    colon_sound x (lexeme.Fixed mark.Colon) r e = some_same (so_far (stage.Colon x)) (fixed mark.Colon) (holds done q bs (stage.Sort x)) r e (record { is = more (before_next words_of_binder bs ++ lexeme.Name x ∷ []) (before_next words_of_binder bs ++ (lexeme.Name x ∷ fixed mark.Colon ∷ [])) (fixed mark.Colon) (sym (append_assoc (before_next words_of_binder bs) (lexeme.Name x ∷ []) (fixed mark.Colon ∷ []))); fine = tt })
    colon_sound x _ r e = absurd (cc)

    binder_after : (x s : List ℕ) (l : Lexeme) → sort_lexeme (record { name = x; sort = s }) ≡ l → After (so_far (stage.Sort x)) l (holds done q (with_binder bs x s) stage.Next)
    binder_after x s l e =
        let b : BinderSyntax = record { name = x; sort = s } in
        record { is = more (before_next words_of_binder bs ++ (lexeme.Name x ∷ fixed mark.Colon ∷ [])) (with_commas (map words_of_binder (bs ++ b ∷ []))) l (commas-last words_of_binder bs b ∙ (ap (λ (z : Lexeme). before_next words_of_binder bs ++ (lexeme.Name x ∷ fixed mark.Colon ∷ z ∷ [])) e ∙ sym (append_assoc (before_next words_of_binder bs) (lexeme.Name x ∷ fixed mark.Colon ∷ []) (l ∷ [])))); fine = (bs, b, refl) }

    sort_sound : (x : List ℕ) (l : Lexeme) (r : PhraseReader) → NotNat l → sort_next done q bs x l ≡ Some r → After (so_far (stage.Sort x)) l r
    sort_sound x (lexeme.Fixed mark.Nat) r h e = some_same (so_far (stage.Sort x)) (fixed mark.Nat) (holds done q (with_binder bs x (codes "nat")) stage.Next) r e (binder_after x (codes "nat") (fixed mark.Nat) refl)
    sort_sound x (lexeme.Name s) r h e = some_same (so_far (stage.Sort x)) (lexeme.Name s) (holds done q (with_binder bs x s) stage.Next) r e (binder_after x s (lexeme.Name s) (named_sort x s h))
    sort_sound x _ r h e = absurd (cc)

    stop_sound : (l : Lexeme) (r : PhraseReader) → FineStage bs stage.Next → stop_next done q bs l ≡ Some r → After (so_far stage.Next) l r
    stop_sound (lexeme.Fixed mark.Comma) r f e = some_same (so_far stage.Next) (fixed mark.Comma) (holds done q bs stage.Name) r e (record { is = more (with_commas (map words_of_binder bs)) (before_next words_of_binder bs) (fixed mark.Comma) (comma_behind bs f.0 f.1 f.2); fine = tt })
    stop_sound (lexeme.Fixed mark.Dot) r f e = some_same (so_far stage.Next) (fixed mark.Dot) (closed (done ++ phrase.Quantifier q bs ∷ [])) r e (record { is = words_of_phrases-last done (phrase.Quantifier q bs) ∙ more (with_commas (map words_of_binder bs)) (with_commas (map words_of_binder bs) ++ fixed mark.Dot ∷ []) (fixed mark.Dot) refl; fine = tt })
    stop_sound _ r f e = absurd (cc)

    at_sound : (s : BinderStage) (l : Lexeme) (r : PhraseReader) → NotNat l → FineStage bs s → at done q bs s l ≡ Some r → After (so_far s) l r
    at_sound stage.Name l r h f e = name_sound l r e
    at_sound (stage.Colon x) l r h f e = colon_sound x l r e
    at_sound (stage.Sort x) l r h f e = sort_sound x l r h e
    at_sound stage.Next l r h f e = stop_sound l r f e

step_sound : (done : List Phrase) (p : Option Binding) (l : Lexeme) (r : PhraseReader) → NotNat l → FineBinding p → step_at p done l ≡ Some r → After (told_at done p) l r
step_sound done None l r h f e = some_same (words_of_phrases done) l (outside done l) r e (outside_sound done l)
step_sound done (Some b) l r h f e = at_sound done b.quantifier b.binders b.stage l r h f e

record Ran (words ls : List Lexeme) (r : PhraseReader) : Type 0 where
  is : told r ≡ words ++ ls
  fine : FineBinding r.pending

run_sound : (ls : List Lexeme) (s r : PhraseReader) → All NotNat ls → FineBinding s.pending → run ls s ≡ Some r → Ran (told s) ls r
run_sound [] s r h f e = let is : s ≡ r = cc in record { is = sym (ap told is) ∙ sym (append-nil (told s)); fine = subst (λ (z : PhraseReader). FineBinding z.pending) is f }
run_sound (l ∷ ls) s r h f e =
    option_and_then_some (run ls) (step s l) r e (λ x one rest.
    let a = step_sound s.done s.pending l x (All-head NotNat l ls h) f one in
    let m = run_sound ls x r (All-tail NotNat l ls h) a.fine rest in
    record { is = m.is ∙ (ap (λ (z : List Lexeme). z ++ ls) a.is ∙ append_assoc (told s) (l ∷ []) ls); fine = m.fine })

ended_sound : (done : List Phrase) (p : Option Binding) (ps : List Phrase) → ended_at p done ≡ Some ps → words_of_phrases ps ≡ told_at done p
ended_sound done None ps e = let is : ps ≡ done = cc in ap words_of_phrases is
ended_sound done (Some b) ps e = absurd (cc)

-- the phrases have the words that they were read from
pub phrases_sound : (ls : List Lexeme) (ps : List Phrase) → All NotNat ls → phrases_of ls ≡ Some ps → words_of_phrases ps ≡ ls
phrases_sound ls ps h e =
    option_and_then_some ended (run ls (closed [])) ps e (λ r all end.
    ended_sound r.done r.pending ps end ∙ (run_sound ls (closed []) r h tt all).is)
