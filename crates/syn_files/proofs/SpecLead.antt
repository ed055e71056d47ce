-- The printed lines of a specification lead, one after another, to the specification with its places left out.
use Rattle.std.proofs.Common.{◌≡◌, inl, ℕ, List, [], ◌∷◌, ◌++◌, All, codes, map, refl, sym, ◌∙◌, ap, subst, arith, append-nil}
use Rattle.std.specs.List.{flat_map}
use Rattle.std.proofs.lemmas.List.{map-append}
use Rattle.std.proofs.lemmas.List.Elements.{All-from_recursion, All-head, All-nil}
use Rattle.syn_term.specs.Names.{IsName, reserved}
use Rattle.syn_form.specs.Grammar.{spelling}
use Rattle.syn_form.proofs.Owned.{All-left, All-right}
use Rattle.syn_lex.specs.Stepping.{IsTextOf, Lead, Step}
use Rattle.syn_lex.specs.TextLines.{Without, with_feed}
use Rattle.syn_model.specs.declared.decl.Decl.{Decl}
use Rattle.syn_model.specs.declared.spec_part.SpecPart.{SpecPart}
use Rattle.syn_model.specs.declared.spec_part.SpecPart.TheVariants as part
use Rattle.syn_model.specs.BareParts.{bare_part, bare_spec_tree}
use Rattle.syn_model.specs.Declaring.{IsTheory}
use Rattle.syn_model.specs.Specifications.{IsSpec, IsWholeSpec, MayBegin, MayExtend, SpecTree, bare_spec, begun, one_more, with_part}
use Rattle.syn_model.proofs.BareExtending.{ensures_bare, may_extend_bare, with_part_bare}
use Rattle.syn_expr.proofs.Puts.{spelled_alone, token_words, word_then_space}
use Rattle.syn_files.specs.PrintedSpec.{IsPartWithinLimit, printed_head, printed_part, printed_spec}
use Rattle.syn_files.specs.SpecLines.{IsWholeText, SpecLine, heading, known, nothing, one_part, title, titled}
use Rattle.syn_files.proofs.HeadBack.{head_told}
use Rattle.syn_files.proofs.LineNames.{IsPart}
use Rattle.syn_files.proofs.PartBack.{part_told}
use Rattle.syn_files.proofs.SimpleBack.{name_lexeme}
use Rattle.syn_files.proofs.SpecTables.{spec_grows}
use Rattle.syn_files.proofs.Spellings.{IsOther, keyword_name}

pub spec_name : IsName (codes "spec")
spec_name = keyword_name 115 (112 ∷ 101 ∷ 99 ∷ []) (omega arith) refl (All-from_recursion IsPart (codes "spec") ((omega arith, refl), ((omega arith, refl), ((omega arith, refl), ((omega arith, refl), tt))))) (omega arith) (All-from_recursion (IsOther (codes "spec")) reserved (refl, (refl, (refl, (refl, (refl, (refl, (refl, (refl, (refl, (refl, (refl, (refl, (refl, (refl, (refl, tt))))))))))))))))

-- lines, and one line more
lead_more : {S : Type 0} (step : Step S) (s m t : S) (lines : List (List ℕ)) (line : List ℕ) → Lead step s lines m → step m line t → Lead step s (lines ++ line ∷ []) t
lead_more {S} step s m t [] line h k = (t, subst (λ (z : S). step z line t) (sym h) k, refl)
lead_more step s m t (l ∷ ls) line h k = (h.0, h.1, lead_more step h.0 m t ls line h.2 k)

-- a part's line is the same whatever other parts there are
line_same : (s : SpecTree) (p q : SpecPart) → printed_part (with_part s p) q ≡ printed_part s q
line_same s p (part.Requires form) = refl
line_same s p (part.Ensures form) = refl
line_same s p (part.Order name) = refl
line_same s p (part.Primitive names) = refl
line_same s p (part.Taken names) = refl

pub lines_same : (s : SpecTree) (p : SpecPart) (qs : List SpecPart) → map (printed_part (with_part s p)) qs ≡ map (printed_part s) qs
lines_same s p [] = refl
lines_same s p (q ∷ qs) = ap (λ (z : List ℕ). z ∷ map (printed_part (with_part s p)) qs) (line_same s p q) ∙ ap (λ (z : List (List ℕ)). printed_part s q ∷ z) (lines_same s p qs)

-- the lines of a specification
abbrev pub spec_lines : SpecTree → List (List ℕ)
spec_lines s = (codes "spec " ++ s.name) ∷ printed_head s ∷ map (printed_part s) s.parts

module _ (ds : List Decl) (theory : IsTheory ds) where
  -- the first line
  title_led : (name : List ℕ) → IsName name → SpecLine ds nothing (codes "spec " ++ name) (titled name)
  title_led name h =
      let line = word_then_space (name_lexeme (codes "spec")) name (name_lexeme name ∷ []) (inl spec_name) (token_words (name_lexeme name) (inl h)) in
      (map spelling (name_lexeme (codes "spec") ∷ name_lexeme name ∷ []), spelled_alone (codes "spec " ++ name) (name_lexeme (codes "spec") ∷ name_lexeme name ∷ []) line.words, title name h)

  -- the second
  head_led : (s : SpecTree) → IsSpec ds s → MayBegin ds (bare_spec ds s.name s.head s.output) → SpecLine ds (titled s.name) (printed_head s) (known (bare_spec ds s.name s.head s.output))
  head_led s is may =
      let told = head_told ds theory s.head s.output may.head s.table (spec_grows ds theory s is) in
      (told.words, told.spelled, heading s.name s.head s.output told.words told.writes may)

  -- and a part's
  part_led : (s : SpecTree) (p : SpecPart) → IsSpec ds s → MayExtend ds s p → IsPartWithinLimit p → SpecLine ds (known (bare_spec_tree s)) (printed_part s p) (known (bare_spec_tree (with_part s p)))
  part_led s p is may limit =
      let told = part_told ds theory s is p may.asks limit in
      let step : SpecLine ds (known (bare_spec_tree s)) (printed_part s p) (known (with_part (bare_spec_tree s) (bare_part p))) = (told.words, told.spelled, one_part (bare_spec_tree s) (bare_part p) told.words told.writes ((may_extend_bare ds s p).1 may)) in
      subst (λ (z : SpecTree). SpecLine ds (known (bare_spec_tree s)) (printed_part s p) (known z)) (sym (with_part_bare s p)) step

  pub spec_led : (s : SpecTree) → IsSpec ds s → All IsPartWithinLimit s.parts → Lead (SpecLine ds) nothing (spec_lines s) (known (bare_spec_tree s))
  spec_led _ (begun name h output may) limits =
      let s = bare_spec ds name h output in
      (titled name, title_led name may.named, (known s, head_led s (begun name h output may) may, refl))
  spec_led _ (one_more s p before may) limits =
      let front = spec_led s before (All-left IsPartWithinLimit s.parts (p ∷ []) limits) in
      let step = part_led s p before may (All-head IsPartWithinLimit p [] (All-right IsPartWithinLimit s.parts (p ∷ []) limits)) in
      let all : map (printed_part s) s.parts ++ printed_part s p ∷ [] ≡ map (printed_part (with_part s p)) (s.parts ++ p ∷ []) = sym (lines_same s p (s.parts ++ p ∷ []) ∙ map-append (printed_part s) s.parts (p ∷ [])) in
      subst (λ (z : List (List ℕ)). Lead (SpecLine ds) nothing ((codes "spec " ++ s.name) ∷ printed_head s ∷ z) (known (bare_spec_tree (with_part s p)))) all
      (lead_more (SpecLine ds) nothing (known (bare_spec_tree s)) (known (bare_spec_tree (with_part s p))) (spec_lines s) (printed_part s p) front step)

  -- where no line has a line feed, what is printed for a specification reads back
  pub lines_read_back : (s : SpecTree) → IsSpec ds s → IsWholeSpec s → All IsPartWithinLimit s.parts → All (Without 10) (spec_lines s) → IsTextOf (SpecLine ds) nothing IsWholeText (printed_spec s) (known (bare_spec_tree s))
  lines_read_back s is whole limits clean = record {
    lines = spec_lines s;
    cut = record {
      is = append-nil (flat_map with_feed (spec_lines s));
      clean = clean;
      open_clean = All-nil (λ (c : ℕ). c ≡ 10 → ⊥);
    };
    led = spec_led s is limits;
    whole = (ensures_bare s.parts).1 whole;
  }
