-- Where a formula with quantifiers may use the symbol that is defined, from its parts.
use Rattle.std.proofs.Common.{◌≡◌, ◌↔◌, Option, List, All, sym, subst}
use Rattle.syn_term.specs.declared.sorts.SymId.{SymId}
use Rattle.syn_term.specs.Terms.{TermTree}
use Rattle.syn_form.specs.declared.trees.QForm.TheVariants as form
use Rattle.syn_form.specs.Trees.{QFormTree}
use Rattle.syn_form.proofs.Cuts.{AnyBinder, AnyChain, Cuts}
use Rattle.syn_form.proofs.QNodes.{every-True, every-False, every-Atom, every-Equal, every-Not, every-And, every-Or, every-Implies, every-All, every-Exists, node-Atom, node-Equal, part-Not, parts-And, parts-Or, parts-Implies, part-All, part-Exists}
use Rattle.syn_model.specs.declared.uses.Rest.{Rest}
use Rattle.syn_model.specs.Clauses.{MayUse, UsesTerm}
use Rattle.syn_model.specs.Specifications.{UsesQForm, UsesQFormNode}

module _ (own : SymId) (rest : Option Rest) where
  pub uses_cuts : Cuts (UsesQForm own rest) AnyChain AnyBinder
  uses_cuts = record {
    at_true = every-True (UsesQFormNode own rest) tt;
    at_false = every-False (UsesQFormNode own rest) tt;
    at_not = λ a. ((λ h. part-Not (UsesQFormNode own rest) a h), (λ h. every-Not (UsesQFormNode own rest) a tt h));
    at_and = λ all. ((λ h. (tt, parts-And (UsesQFormNode own rest) all h)), (λ h. every-And (UsesQFormNode own rest) all tt h.1));
    at_or = λ all. ((λ h. (tt, parts-Or (UsesQFormNode own rest) all h)), (λ h. every-Or (UsesQFormNode own rest) all tt h.1));
    at_implies = λ a b. ((λ h. parts-Implies (UsesQFormNode own rest) a b h), (λ h. every-Implies (UsesQFormNode own rest) a b tt h.0 h.1));
    at_all = λ b a. ((λ h. (tt, part-All (UsesQFormNode own rest) b a h)), (λ h. every-All (UsesQFormNode own rest) b a tt h.1));
    at_exists = λ b a. ((λ h. (tt, part-Exists (UsesQFormNode own rest) b a h)), (λ h. every-Exists (UsesQFormNode own rest) b a tt h.1));
  }

  pub atom_uses : (f : QFormTree) (r : SymId) (args xs ys : List TermTree) → f ≡ form.Atom r args → xs ≡ args → ys ≡ args → UsesQForm own rest f ↔ (r ≡ own → MayUse rest xs) × All (UsesTerm own rest) ys
  atom_uses f r args xs ys is is_xs is_ys =
      subst (λ (z : List TermTree). UsesQForm own rest f ↔ (r ≡ own → MayUse rest z) × All (UsesTerm own rest) ys) (sym is_xs)
      (subst (λ (z : List TermTree). UsesQForm own rest f ↔ (r ≡ own → MayUse rest args) × All (UsesTerm own rest) z) (sym is_ys)
      ((λ h. node-Atom (UsesQFormNode own rest) r args (subst (UsesQForm own rest) is h)), (λ h. subst (UsesQForm own rest) (sym is) (every-Atom (UsesQFormNode own rest) r args h))))

  pub equal_uses : (f : QFormTree) (s t : TermTree) → f ≡ form.Equal s t → UsesQForm own rest f ↔ UsesTerm own rest s × UsesTerm own rest t
  equal_uses f s t is = ((λ h. node-Equal (UsesQFormNode own rest) s t (subst (UsesQForm own rest) is h)), (λ h. subst (UsesQForm own rest) (sym is) (every-Equal (UsesQFormNode own rest) s t h)))
