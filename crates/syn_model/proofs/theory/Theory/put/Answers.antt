use Rattle.std.proofs.Common.{◌∙◌, sym, subst}
use Rattle.syn_model.specs.Declaring.{Asks, ComesInTime, is_clause}
use Rattle.syn_model.specs.Theories.{TheoryTree}
use Rattle.syn_model.specs.inner.Indexing.{IsNewIn}
use Rattle.syn_model.proofs.Keeping.{kept_apart, kept_more, last_is}
use Rattle.syn_model.proofs.theory.Theory.put.Goals as goal

pub settle_last-requires : goal.settle_last-requires
settle_last-requires c = λ ds d e.
    subst (IsNewIn c.self.inside.index) (last_is c.self.inside.decls ds c.args.decl d (sym (c.as_slice.ensures ∙ c.in_ok-push.ensures.ok) ∙ e))
    (kept_apart _ _ _ _ c.args.decl c.self.invariant (subst (λ (z : TheoryTree). ComesInTime z.decls (is_clause c.args.decl) × Asks z.decls c.args.decl) (sym c.self.view_is) c.requires).1)

pub invariant_of-self-in-Ok-true : goal.invariant_of-self-in-Ok-true
invariant_of-self-in-Ok-true c =
    kept_more _ _ _ _ _ _ _ c.args.decl c.self.invariant
    (subst (λ (z : TheoryTree). ComesInTime z.decls (is_clause c.args.decl) × Asks z.decls c.args.decl) (sym c.self.view_is) c.requires) c.in_ok-push.ensures.ok _ c.in-Ok-true.field-0-test
    (c.in-Ok-true.ensures.settled _ c.args.decl (c.as_slice.ensures ∙ c.in_ok-push.ensures.ok))
