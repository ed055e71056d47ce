-- The reader of outputs reads each reading of the grammar that is low enough.
use Rattle.std.proofs.Common.{◌≡◌, ℕ, ◌+◌, ◌≤◌, max, nat_lt, true, List, [], ◌∷◌, ◌++◌, Option, None, Some, option_and_then, option_map, refl, sym, ◌∙◌, ap, arith, append_assoc, append-nil}
use Rattle.std.proofs.lemmas.Option.{option_and_then_some}
use Rattle.std.proofs.lemmas.Bool.Decides.{nat_tests}
use denote.Hole.Carrier.{roll}
use Rattle.syn_form.specs.declared.syntax.Mark.{Mark}
use Rattle.syn_form.specs.declared.syntax.Mark.TheVariants as mark
use Rattle.syn_form.specs.declared.syntax.TermSyntax.{TermSyntax}
use Rattle.syn_form.specs.declared.syntax.FormSyntax.{FormSyntax}
use Rattle.syn_form.specs.declared.syntax.OutSyntax.{OutSyntax, roll-OutSyntax, fold-roll-OutSyntax}
use Rattle.syn_form.specs.declared.syntax.OutSyntax.TheOpen.{OutSyntax-F}
use Rattle.syn_form.specs.declared.syntax.OutSyntax.TheVariants as out
use Rattle.syn_form.specs.declared.syntax.OutSyntax.TheViews as out_view
use Rattle.syn_form.specs.Grammar.{OutText, give, choice, syntax_of_form, syntax_of_out}
use Rattle.syn_parse.specs.declared.items.Item.{Item}
use Rattle.syn_parse.specs.declared.items.Item.TheVariants as item
use Rattle.syn_parse.specs.declared.form_frames.Tall.{Tall}
use Rattle.syn_parse.specs.declared.form_reader.FormReader.{FormReader}
use Rattle.syn_parse.specs.declared.out_reader.TallOut.{TallOut}
use Rattle.syn_parse.specs.declared.out_reader.Arm.{Arm}
use Rattle.syn_parse.specs.declared.out_reader.Arm.TheVariants as arm
use Rattle.syn_parse.specs.inner.Items.{items_of_form, items_of_out}
use Rattle.syn_parse.specs.Heights.{height_of, out_height, out_height_step, max_height}
use Rattle.syn_parse.specs.inner.FormMachine as tests
use Rattle.syn_parse.specs.inner.OutMachine.{built, choice_of, wanted, testing, came, step, run, start, ended, parsed}
use Rattle.syn_parse.proofs.FormLevels.{tall, cond_at}
use Rattle.syn_parse.proofs.FormComplete.{after, after-finished, run-form}

-- the heights, case by case
pub height-Give : (t : TermSyntax) → out_height (out.Give t) ≡ 1
unfolding roll-OutSyntax roll
height-Give t = fold-roll-OutSyntax ℕ out_height_step (OutSyntax-F.Give t)

pub height-If : (f : FormSyntax) (a b : OutSyntax) → out_height (out_view.If f a b) ≡ 1 + max (height_of f) (max (out_height a) (out_height b))
unfolding roll-OutSyntax roll
height-If f a b = fold-roll-OutSyntax ℕ out_height_step (OutSyntax-F.If f a b)

-- an output as the reader keeps it
abbrev pub tall_out : OutSyntax → TallOut
tall_out o = record { out = o; height = out_height o }

built-low : (o : OutSyntax) (n : ℕ) → out_height o ≡ 1 + n → out_height o ≤ 1264 → built o n ≡ Some (tall_out o)
built-low o n e low =
    let t : nat_lt n max_height ≡ true = grind (arith, nat_tests) in
    let h : n + 1 ≡ out_height o = omega (arith, e) in
    cond_at (nat_lt n max_height) true (Some (record { out = o; height = n + 1 })) None t ∙ ap (λ (z : ℕ). Some (record { out = o; height = z })) h

choice-low : (f : FormSyntax) (a b : OutSyntax) → out_height (out_view.If f a b) ≤ 1264 → choice_of (tall f) (tall_out a) (tall_out b) ≡ Some (tall_out (out_view.If f a b))
choice-low f a b low = built-low (out_view.If f a b) (max (height_of f) (max (out_height a) (out_height b))) (height-If f a b) low

-- no formula goes on with `then`
then_at : (o : Option Tall) (r : FormReader) → tests.step_at o r (item.Fixed mark.Then) ≡ None
then_at None r = refl
then_at (Some u) r = refl

followed_mark : (arms : List Arm) (r : FormReader) (m : Mark) (x : FormReader) → tests.step r (item.Fixed m) ≡ Some x → step (testing arms r) (item.Fixed m) ≡ Some (testing arms x)
followed_mark arms r mark.Then x e = let n : None ≡ Some x = sym (then_at r.last r) ∙ e in absurd (cc)
followed_mark arms r _ x e = ap (option_map (testing arms)) e

-- inside a test the reader goes as that of formulas does
followed : (arms : List Arm) (r : FormReader) (i : Item) (x : FormReader) → tests.step r i ≡ Some x → step (testing arms r) i ≡ Some (testing arms x)
followed arms r (item.Fixed m) x e = followed_mark arms r m x e
followed arms r (item.Term t) x e = ap (option_map (testing arms)) e
followed arms r (item.Equal s t) x e = ap (option_map (testing arms)) e
followed arms r (item.Quantifier q binders) x e = ap (option_map (testing arms)) e

through_test : (items rest : List Item) (arms : List Arm) (r s : FormReader) → tests.run items r ≡ Some s → run (items ++ rest) (testing arms r) ≡ run rest (testing arms s)
through_test [] rest arms r s e = let same : r ≡ s = cc in ap (λ (z : FormReader). run rest (testing arms z)) same
through_test (i ∷ items) rest arms r s e =
    option_and_then_some (tests.run items) (tests.step r i) s e (λ x one more. ap (option_and_then (run (items ++ rest))) (followed arms r i x one) ∙ through_test items rest arms x s more)

regroup : (f a b rest : List Item) (t e : Item) → ((f ++ t ∷ a) ++ e ∷ b) ++ rest ≡ f ++ (t ∷ (a ++ (e ∷ (b ++ rest))))
regroup f a b rest t e = append_assoc (f ++ t ∷ a) (e ∷ b) rest ∙ append_assoc f (t ∷ a) (e ∷ (b ++ rest))

-- where an output is wanted the reader reads one, whatever follows it
reads_out : (w : OutText) (rest : List Item) (arms : List Arm) → out_height (syntax_of_out w) ≤ 1264 → run (items_of_out w ++ rest) (wanted arms) ≡ option_and_then (run rest) (came arms (tall_out (syntax_of_out w)))
reads_out (give t) rest arms low = ap (λ (n : ℕ). option_and_then (run rest) (came arms (record { out = out.Give t; height = n }))) (sym (height-Give t))
reads_out (choice f a b) rest arms low =
    let test = syntax_of_form f in
    let u = syntax_of_out a in
    let v = syntax_of_out b in
    let h = height-If test u v in
    let low_f : height_of test ≤ 1264 = omega (arith, low, h) in
    let low_a : out_height u ≤ 1264 = omega (arith, low, h) in
    let low_b : out_height v ≤ 1264 = omega (arith, low, h) in
    let second = item.Fixed mark.Else ∷ (items_of_out b ++ rest) in
    let first = items_of_out a ++ second in
    ap (λ (z : List Item). run z (testing arms tests.start)) (regroup (items_of_form f) (items_of_out a) (items_of_out b) rest (item.Fixed mark.Then) (item.Fixed mark.Else)) ∙ (through_test (items_of_form f) (item.Fixed mark.Then ∷ first) arms tests.start (after f) (run-form f low_f) ∙ (ap (λ (z : Option Tall). option_and_then (run first) (option_map (λ (t : Tall). wanted (arm.Then t ∷ arms)) z)) (after-finished f low_f) ∙ (reads_out a second (arm.Then (tall test) ∷ arms) low_a ∙ (reads_out b rest (arm.Else (tall test) (tall_out u) ∷ arms) low_b ∙ ap (λ (z : Option TallOut). option_and_then (run rest) (option_and_then (came arms) z)) (choice-low test u v low)))))

-- each reading that is low enough is read as its syntax tree
pub complete : (w : OutText) → out_height (syntax_of_out w) ≤ 1264 → parsed (items_of_out w) ≡ Some (syntax_of_out w)
complete w low = ap (λ (z : List Item). option_and_then ended (run z start)) (sym (append-nil (items_of_out w))) ∙ ap (option_and_then ended) (reads_out w [] [] low)
