use Rattle.std.proofs.Common.{◌∷◌, [], ◌++◌, ◌∙◌, ap, sym, subst, take}
use Rattle.std.proofs.lemmas.List.{take_more}
use Rattle.syn_model.specs.declared.decl.Decl.{Decl}
use Rattle.syn_model.specs.inner.Indexing.{Indexed, IsNewIn, index_after, index_of}
use Rattle.syn_model.proofs.IndexLaws.{index_next, new_at}
use Rattle.syn_model.proofs.index.enter_all.Goals as goal

pub enter-requires : goal.enter-requires
enter-requires c =
    subst (λ (i : Indexed). IsNewIn i c.decl-item.result) (sym c.loop-decl.invariant)
    (subst (IsNewIn (index_of (take c.loop-decl.decl-index c.args.decls.now))) (sym c.decl-item.is) (new_at c.args.decls.now c.requires.theory c.loop-decl.decl-index c.decl-item.result c.loop-decl-test.true))

pub loop-decl-preserved : goal.loop-decl-preserved
loop-decl-preserved c =
    c.in_ok-enter.ensures.ok
    ∙ (ap (λ (i : Indexed). index_after i c.decl-item.result) c.loop-decl.invariant
    ∙ sym (index_next c.decl-item.result _ _ (take_more c.args.decls.now c.loop-decl.decl-index c.decl-item.result c.loop-decl-test.true ∙ ap (λ (d : Decl). take c.loop-decl.decl-index c.args.decls.now ++ d ∷ []) (sym c.decl-item.is))))
