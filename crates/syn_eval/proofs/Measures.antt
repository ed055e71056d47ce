-- Each call within an evaluation is less than what makes it: fewer turns, or as many and fewer nodes.
use Rattle.std.proofs.Common.{◌≡◌, ℕ, zero, suc, ◌+◌, ◌*◌, ◌/◌, ◌<◌, ◌≤◌, Bool, true, false, List, [], ◌∷◌, map, sum, length, get_or, if◌then◌else◌, refl, ap, ◌∙◌, arith}
use Rattle.std.proofs.lemmas.List.Sums.{sum_by-cons}
use Rattle.syn_term.specs.declared.sorts.SymId.{SymId}
use Rattle.syn_term.specs.declared.term.Place.{Place}
use Rattle.syn_term.specs.declared.term.Node.TheViews as node_view
use Rattle.syn_term.specs.Terms.{TermTree, nodes}
use Rattle.syn_term.proofs.Trees.{nodes-App}
use Rattle.syn_form.specs.declared.trees.Form.TheVariants as form
use Rattle.syn_form.specs.declared.trees.Form.TheViews as form_view
use Rattle.syn_form.specs.declared.trees.Out.TheViews as out_view
use Rattle.syn_form.specs.Trees.{FormTree, OutTree, form_nodes, out_nodes}
use Rattle.syn_form.proofs.Equations.{form_nodes-Atom, form_nodes-Equal, form_nodes-Implies, out_nodes-If}
use Rattle.syn_model.specs.Calls.{Meaning, half}
use Rattle.syn_eval.specs.inner.Weights.{all_nodes, weight}
use Rattle.syn_eval.proofs.Turns.{fewer, turn_less}

-- a body, one level below
pub body_less : (m : Meaning) (turns left n x y : ℕ) → left < turns → n ≤ all_nodes m → x ≤ 4 * n + 1 → left * weight m + x < turns * weight m + y
body_less m turns left n x y lt le h = turn_less left turns (weight m) x y lt (omega (arith, le, h))

-- what follows within a term, a formula and an output
pub call_less : (w turns left : ℕ) (t : TermTree) (p : Place) (f : SymId) (args : List TermTree) → t ≡ node_view.App p f args → left ≤ turns → left * w + 3 < turns * w + 4 * nodes t
call_less w turns left t p f args e le =
    let n : nodes t ≡ 1 + sum (map nodes args) = ap nodes e ∙ nodes-App p f args in
    fewer left turns w 3 (4 * nodes t) le (omega (arith, n))

pub ask_less : (w turns left : ℕ) (args : List TermTree) → left ≤ turns → left * w + 2 < turns * w + (4 * sum (map nodes args) + 3)
ask_less w turns left args le = fewer left turns w 2 (4 * sum (map nodes args) + 3) le (omega arith)

pub second_term_less : (w turns left : ℕ) (a b : TermTree) → left ≤ turns → left * w + 4 * nodes b < turns * w + (4 * (nodes a + nodes b) + 1)
second_term_less w turns left a b le = fewer left turns w (4 * nodes b) (4 * (nodes a + nodes b) + 1) le (omega arith)

pub conclusion_less : (w turns left : ℕ) (a b : FormTree) → left ≤ turns → left * w + 4 * form_nodes b < turns * w + (4 * (form_nodes a + form_nodes b) + 1)
conclusion_less w turns left a b le = fewer left turns w (4 * form_nodes b) (4 * (form_nodes a + form_nodes b) + 1) le (omega arith)

-- the arms of a formula
pub atom_less : (w turns : ℕ) (f : FormTree) (r : SymId) (args us : List TermTree) → f ≡ form.Atom r args → us ≡ args → turns * w + (4 * sum (map nodes us) + 3) < turns * w + 4 * form_nodes f
atom_less w turns f r args us e is =
    let n : form_nodes f ≡ 1 + sum (map nodes args) = ap form_nodes e ∙ form_nodes-Atom r args in
    let k : sum (map nodes us) ≡ sum (map nodes args) = ap (λ z. sum (map nodes z)) is in
    omega (arith, n, k)

pub equal_less : (w turns : ℕ) (f : FormTree) (a b : TermTree) → f ≡ form.Equal a b → turns * w + (4 * (nodes a + nodes b) + 1) < turns * w + 4 * form_nodes f
equal_less w turns f a b e = let n : form_nodes f ≡ 1 + (nodes a + nodes b) = ap form_nodes e ∙ form_nodes-Equal a b in omega (arith, n)

pub implies_less : (w turns : ℕ) (f a b g h : FormTree) → f ≡ form_view.Implies a b → g ≡ a → h ≡ b → turns * w + (4 * (form_nodes g + form_nodes h) + 1) < turns * w + 4 * form_nodes f
implies_less w turns f a b g h e is are =
    let n : form_nodes f ≡ 1 + (form_nodes a + form_nodes b) = ap form_nodes e ∙ form_nodes-Implies a b in
    let k : form_nodes g ≡ form_nodes a = ap form_nodes is in
    let l : form_nodes h ≡ form_nodes b = ap form_nodes are in
    omega (arith, n, k, l)

pub first_arm_less : (w turns left : ℕ) (o : OutTree) (f : FormTree) (u v g : OutTree) → o ≡ out_view.If f u v → g ≡ u → left ≤ turns → left * w + (4 * out_nodes g + 1) < turns * w + (4 * out_nodes o + 1)
first_arm_less w turns left o f u v g e is le =
    let n : out_nodes o ≡ 1 + (form_nodes f + (out_nodes u + out_nodes v)) = ap out_nodes e ∙ out_nodes-If f u v in
    let k : out_nodes g ≡ out_nodes u = ap out_nodes is in
    fewer left turns w (4 * out_nodes g + 1) (4 * out_nodes o + 1) le (omega (arith, n, k))

pub arm_less : (w turns left : ℕ) (o : OutTree) (f : FormTree) (u v g : OutTree) (b : Bool) → o ≡ out_view.If f u v → g ≡ (if b then u else v) → left ≤ turns → left * w + (4 * out_nodes g + 1) < turns * w + (4 * out_nodes o + 1)
arm_less w turns left o f u v g true e is le = first_arm_less w turns left o f u v g e is le
arm_less w turns left o f u v g false e is le =
    let n : out_nodes o ≡ 1 + (form_nodes f + (out_nodes u + out_nodes v)) = ap out_nodes e ∙ out_nodes-If f u v in
    let k : out_nodes g ≡ out_nodes v = ap out_nodes is in
    fewer left turns w (4 * out_nodes g + 1) (4 * out_nodes o + 1) le (omega (arith, n, k))

-- an item of a list
in_sum : {X : Type 0} (size : X → ℕ) (xs : List X) (i : ℕ) (x : X) → i < length xs → x ≡ get_or xs i x → size x ≤ sum (map size xs)
in_sum size [] i x lt e = absurd (omega (arith, lt))
in_sum size (y ∷ xs) zero x lt e = let k : size x ≡ size y = ap size e in let s = sum_by-cons (λ (n : ℕ). n) (size y) (map size xs) in omega (arith, k, s)
in_sum size (y ∷ xs) (suc i) x lt e = let k = in_sum size xs i x (omega (arith, lt)) e in let s = sum_by-cons (λ (n : ℕ). n) (size y) (map size xs) in omega (arith, k, s)

pub item_less : {X : Type 0} (size : X → ℕ) (w turns left : ℕ) (xs : List X) (i : ℕ) (x : X) → i < length xs → x ≡ get_or xs i x → left ≤ turns → left * w + 4 * size x < turns * w + (4 * sum (map size xs) + 1)
item_less size w turns left xs i x lt e le = let k = in_sum size xs i x lt e in fewer left turns w (4 * size x) (4 * sum (map size xs) + 1) le (omega (arith, k))

-- half of a number
pub half_is : (n : ℕ) → n / 2 ≡ half n
half_is zero = refl
half_is (suc zero) = refl
half_is (suc (suc n)) = let e : suc (suc n) / 2 ≡ suc (n / 2) = omega arith in e ∙ ap suc (half_is n)
