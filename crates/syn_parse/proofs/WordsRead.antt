-- Words are read one by one: what was read so far, and what follows at each end.
use Rattle.std.proofs.Common.{◌≡◌, ℕ, ◌+◌, ◌≤◌, List, [], ◌∷◌, ◌++◌, Option, None, Some, Result, Ok, Err, All, append-nil, length, take, take-append-drop, drop, slice_get, refl, sym, ◌∙◌, ap, subst, arith}
use Rattle.std.proofs.lemmas.List.{append_assoc, take-map}
use Rattle.std.proofs.lemmas.List.Elements.{All-take}
use Rattle.syn_term.specs.Tokens.{Word}
use Rattle.syn_lex.specs.Lexing.{IsTokenWord}
use Rattle.syn_form.specs.declared.syntax.Lexeme.{Lexeme}
use Rattle.syn_form.specs.Grammar.{spelling}
use Rattle.syn_parse.specs.Lexemes.{IsCanonical, IsWrittenBy}
use Rattle.syn_parse.specs.inner.Feeding.{Keeps}
use Rattle.syn_parse.specs.inner.Leads.{Leads, Tells}
use Rattle.syn_parse.specs.inner.Passes.{Gives}
use Rattle.syn_parse.specs.inner.Spelling.{NoLexeme, Spells}
use Rattle.syn_parse.specs.declared.stop.Stop.{Stop}
use Rattle.syn_parse.specs.declared.stop.Stop.TheVariants as stop
use Rattle.syn_parse.proofs.Gives.{gives_of}
use Rattle.syn_parse.proofs.LexemeLaws.{one_writing}
use Rattle.syn_parse.proofs.TokenLists.{written_all, written_more, written_none}

-- the first k words are lexemes, and behind them what is left leads where all leads
abbrev pub Read : {S : Type 0} → (List Lexeme → Option S) → (List Lexeme → Option S) → List Word → ℕ → Type 0
Read from state ws k = (done : List Lexeme) × IsWrittenBy (take k ws) done × ((more : List Lexeme) → from (done ++ more) ≡ state more)

module _ {S : Type 0} (from : List Lexeme → Option S) (ws : List Word) where
  pub read_start : Read from from ws 0
  read_start = ([], ((λ i d lt. absurd (omega arith)), refl), λ more. refl)

  module _ (state : List Lexeme → Option S) (k : ℕ) (w : Word) (there : slice_get ws k ≡ Some w) (l : Lexeme) (is : Spells w l) where
    onward : (r : Read from state ws k) (more : List Lexeme) → from ((r.0 ++ l ∷ []) ++ more) ≡ state (l ∷ more)
    onward r more = ap from (append_assoc r.0 (l ∷ []) more) ∙ r.2 (l ∷ more)

    pub read_more : (next : List Lexeme → Option S) → ((more : List Lexeme) → state (l ∷ more) ≡ next more) → Read from state ws k → Read from next ws (k + 1)
    read_more next step r = (r.0 ++ l ∷ [], written_more ws k w r.0 l there r.1 is, λ more. onward r more ∙ step more)

    -- a word that may not stand here
    read_misplaced : All IsTokenWord ws → ((more : List Lexeme) → state (l ∷ more) ≡ None) → Read from state ws k → Gives from ws None
    read_misplaced each step r = record { all = λ ls h. ap from (parts ls h) ∙ (onward r (drop (k + 1) ls) ∙ step (drop (k + 1) ls)); some = tt }
      where
        front : (ls : List Lexeme) → IsWrittenBy ws ls → IsWrittenBy (take (k + 1) ws) (take (k + 1) ls)
        front ls h = (All-take IsCanonical (k + 1) ls h.0, ap (take (k + 1)) h.1 ∙ take-map spelling (k + 1) ls)

        parts : (ls : List Lexeme) (h : IsWrittenBy ws ls) → ls ≡ (r.0 ++ l ∷ []) ++ drop (k + 1) ls
        parts ls h =
            let same : take (k + 1) ls ≡ r.0 ++ l ∷ [] = one_writing (take (k + 1) ws) (take (k + 1) ls) (r.0 ++ l ∷ []) (All-take IsTokenWord (k + 1) ws each) (front ls h) (written_more ws k w r.0 l there r.1 is) in
            sym (take-append-drop (k + 1) ls) ∙ ap (λ (z : List Lexeme). z ++ drop (k + 1) ls) same

    pub read_stopped : {A : Type 0} (next : List Lexeme → Option S) (result : Result A Stop) (e : Stop) (s : S) → All IsTokenWord ws → result ≡ Err e → ((more : List Lexeme) → Keeps result (state (l ∷ more)) (next more)) → Read from state ws k → Tells {A = A} (Err e) s (Gives from ws)
    read_stopped {A} next result e s each is h r = by e (λ more. subst (λ (z : Result A Stop). Keeps z (state (l ∷ more)) (next more)) is (h more))
      where
        by : (e : Stop) → ((more : List Lexeme) → Keeps {A = A} (Err e) (state (l ∷ more)) (next more)) → Tells {A = A} (Err e) s (Gives from ws)
        by stop.Misplaced h = read_misplaced each h r
        by stop.NoMemory h = tt

  -- a word that is no lexeme
  pub read_none : (k : ℕ) (w : Word) → slice_get ws k ≡ Some w → NoLexeme w → Gives from ws None
  read_none k w there none = record { all = λ ls h. absurd (written_none ws k w there none ls h); some = tt }

  -- the end
  pub read_end : {A : Type 0} (state : List Lexeme → Option S) (k : ℕ) → All IsTokenWord ws → length ws ≤ k → (r : Result A Stop) (s : S) → Leads r s (state []) → Read from state ws k → Tells r s (Gives from ws)
  read_end {A} state k each past (Ok a) s h r = gives_of from ws r.0 (Some s) each (written_all ws k r.0 past r.1) (h ∙ (sym (r.2 []) ∙ ap from (append-nil r.0)))
  read_end {A} state k each past (Err stop.Misplaced) s h r = gives_of from ws r.0 None each (written_all ws k r.0 past r.1) (h ∙ (sym (r.2 []) ∙ ap from (append-nil r.0)))
  read_end {A} state k each past (Err stop.NoMemory) s h r = tt
