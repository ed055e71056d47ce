-- The arguments of a symbol with arguments, and when they are variables.
use Rattle.std.proofs.Common.{◌≡◌, ◌↔◌, Bool, IsTrue, List, All, sym, ◌∙◌, ap, subst, rules}
use Rattle.syn_term.specs.declared.sorts.SymId.{SymId}
use Rattle.syn_term.specs.declared.sorts.Var.{Var}
use Rattle.syn_term.specs.declared.term.Place.{Place}
use Rattle.syn_term.specs.declared.term.Node.{Node, out-Node}
use Rattle.syn_term.specs.declared.term.Node.TheOpen.{Node-F}
use Rattle.syn_term.specs.declared.term.Node.TheVariants as node
use Rattle.syn_term.specs.declared.term.Node.TheViews as view
use Rattle.syn_term.specs.declared.term.Node.TheViews.{the_lemmas}
use Rattle.syn_term.specs.Terms.{TermTree, args_of}
use Rattle.syn_model.specs.Clauses.{IsVariable}

out-Var : (p : Place) (v : Var) → out-Node (node.Var p v) ≡ Node-F.Var p v
out-Var p v = search (rules, the_lemmas)

out-App : (p : Place) (f : SymId) (args : List Node) → out-Node (view.App p f args) ≡ Node-F.App p f args
out-App p f args = search (rules, the_lemmas)

-- the arguments of a symbol with arguments
pub args_of-App : (t : TermTree) (p : Place) (f : SymId) (args xs : List TermTree) → t ≡ view.App p f args → xs ≡ args → args_of t ≡ xs
args_of-App t p f args xs is same = ap args_of is ∙ (let e : out-Node (view.App p f args) ≡ Node-F.App p f args = out-App p f args in rw e (sym same))

-- the test whether a term is flat, by its arguments
pub flat_test : (t : TermTree) (p : Place) (f : SymId) (args xs : List TermTree) (b : Bool) → t ≡ view.App p f args → xs ≡ args → (IsTrue b ↔ All IsVariable xs) → IsTrue b ↔ All IsVariable (args_of t)
flat_test t p f args xs b is same test = subst (λ (z : List TermTree). IsTrue b ↔ All IsVariable z) (sym (args_of-App t p f args xs is same)) test
