-- A part of a formula, or of an output, has fewer nodes than the whole.
use Rattle.std.proofs.Common.{◌≡◌, ℕ, ◌+◌, ◌*◌, ◌<◌, ◌≤◌, List, map, sum, length, get_or, ap, ◌∙◌, arith}
use Rattle.std.proofs.lemmas.List.Sums.{get_or-le-sum_by, sum-map}
use Rattle.syn_form.specs.declared.trees.Form.TheViews as view
use Rattle.syn_form.specs.declared.trees.Out.TheViews as out_view
use Rattle.syn_form.specs.Trees.{FormTree, OutTree, form_nodes, out_nodes}
use Rattle.syn_form.specs.Simplification.{Junction, conjunction, disjunction, chain}
use Rattle.syn_form.proofs.Equations.{form_nodes-And, form_nodes-Implies, form_nodes-Not, form_nodes-Or, out_nodes-If}

pub fewer_left : (f a b x : FormTree) → f ≡ view.Implies a b → x ≡ a → form_nodes x < form_nodes f
fewer_left f a b x e is =
    let n : form_nodes f ≡ 1 + (form_nodes a + form_nodes b) = ap form_nodes e ∙ form_nodes-Implies a b in
    let m : form_nodes x ≡ form_nodes a = ap form_nodes is in omega arith

pub fewer_right : (f a b x : FormTree) → f ≡ view.Implies a b → x ≡ b → form_nodes x < form_nodes f
fewer_right f a b x e is =
    let n : form_nodes f ≡ 1 + (form_nodes a + form_nodes b) = ap form_nodes e ∙ form_nodes-Implies a b in
    let m : form_nodes x ≡ form_nodes b = ap form_nodes is in omega arith

-- one of several formulas has no more than all of them
pub no_more : (xs : List FormTree) (i : ℕ) (d x : FormTree) → i < length xs → x ≡ get_or xs i d → form_nodes x ≤ sum (map form_nodes xs)
no_more xs i d x lt is =
    let h = get_or-le-sum_by form_nodes xs i d lt in
    let e = sum-map form_nodes xs in
    let m : form_nodes x ≡ form_nodes (get_or xs i d) = ap form_nodes is in omega arith

pub fewer_first : (o : OutTree) (f : FormTree) (u v x : OutTree) → o ≡ out_view.If f u v → x ≡ u → out_nodes x < out_nodes o
fewer_first o f u v x e is =
    let n : out_nodes o ≡ 1 + (form_nodes f + (out_nodes u + out_nodes v)) = ap out_nodes e ∙ out_nodes-If f u v in
    let m : out_nodes x ≡ out_nodes u = ap out_nodes is in omega arith

pub fewer_second : (o : OutTree) (f : FormTree) (u v x : OutTree) → o ≡ out_view.If f u v → x ≡ v → out_nodes x < out_nodes o
fewer_second o f u v x e is =
    let n : out_nodes o ≡ 1 + (form_nodes f + (out_nodes u + out_nodes v)) = ap out_nodes e ∙ out_nodes-If f u v in
    let m : out_nodes x ≡ out_nodes v = ap out_nodes is in omega arith

-- the parts of a formula, and of an output, together have fewer nodes than the whole
pub fewer_negated : (f a x : FormTree) → f ≡ view.Not a → x ≡ a → 2 * form_nodes x + 1 < 2 * form_nodes f
fewer_negated f a x e is =
    let n : form_nodes f ≡ 1 + form_nodes a = ap form_nodes e ∙ form_nodes-Not a in
    let m : form_nodes x ≡ form_nodes a = ap form_nodes is in omega arith

pub fewer_sides : (f a b x y : FormTree) → f ≡ view.Implies a b → x ≡ a → y ≡ b → 2 * (form_nodes x + form_nodes y) + 1 < 2 * form_nodes f
fewer_sides f a b x y e is_x is_y =
    let n : form_nodes f ≡ 1 + (form_nodes a + form_nodes b) = ap form_nodes e ∙ form_nodes-Implies a b in
    let m : form_nodes x ≡ form_nodes a = ap form_nodes is_x in
    let k : form_nodes y ≡ form_nodes b = ap form_nodes is_y in omega arith

nodes_of_chain : (j : Junction) (all : List FormTree) → form_nodes (chain j all) ≡ 1 + sum (map form_nodes all)
nodes_of_chain conjunction all = form_nodes-And all
nodes_of_chain disjunction all = form_nodes-Or all

pub fewer_members : (j : Junction) (f : FormTree) (all items : List FormTree) → f ≡ chain j all → items ≡ all → 2 * sum (map form_nodes items) + 1 < 2 * form_nodes f
fewer_members j f all items e is =
    let n : form_nodes f ≡ 1 + sum (map form_nodes all) = ap form_nodes e ∙ nodes_of_chain j all in
    let m : sum (map form_nodes items) ≡ sum (map form_nodes all) = ap (λ (z : List FormTree). sum (map form_nodes z)) is in omega arith

pub fewer_arms : (o : OutTree) (f : FormTree) (u v x y : OutTree) → o ≡ out_view.If f u v → x ≡ u → y ≡ v → 2 * (out_nodes x + out_nodes y) + 1 < 2 * out_nodes o
fewer_arms o f u v x y e is_x is_y =
    let n : out_nodes o ≡ 1 + (form_nodes f + (out_nodes u + out_nodes v)) = ap out_nodes e ∙ out_nodes-If f u v in
    let m : out_nodes x ≡ out_nodes u = ap out_nodes is_x in
    let k : out_nodes y ≡ out_nodes v = ap out_nodes is_y in omega arith
