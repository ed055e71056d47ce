use Rattle.std.proofs.Common.{◌∙◌, ap, sym}
use Rattle.std.specs.Option.{option_copied}
use Rattle.syn_start.proofs.TheoryClauses.{clause_fine}
use Rattle.syn_start.proofs.def_rows.numbered_row.Goals as goal

pub clause_row-requires : goal.clause_row-requires
clause_row-requires c =
    clause_fine c.symbols.result.now c.args.start.now c.theory.result.now c.decls.result.now c.args.name.now c.args.k c.in-Some.decl.now c.args.f
    c.symbols.ensures c.theory.ensures.start c.theory.ensures.is c.decls.ensures.all (sym c.clause_at.ensures ∙ ap option_copied c.in-Some.is) c.requires
