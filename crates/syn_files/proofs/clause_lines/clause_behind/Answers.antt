use Rattle.std.proofs.Common.{◌≡◌, Some, ap, refl}
use Rattle.syn_model.specs.declared.decl.Decl.TheVariants as decl
use Rattle.syn_files.proofs.ClauseHeadings.{fun_declared, fun_named, is_no_heading, other_heading, rel_declared, rel_named}
use Rattle.syn_files.proofs.clause_lines.clause_behind.Goals as goal

pub fun_clause-requires-clause-heading : goal.fun_clause-requires-clause-heading
fun_clause-requires-clause-heading c =
    let e = c.as_str.ensures in
    let g = c.as_slice.ensures in
    let d = c.in-Fun.is in
    let h : c.args.heading.now ≡ decl.Fun c.as_str.result.now c.as_slice.result.now c.in-Fun.result = cc in
    fun_declared c.args.theory.now.decls (Some c.args.heading.now) c.requires.heading c.as_str.result.now c.as_slice.result.now c.in-Fun.result (ap Some h)

pub fun_clause-requires-clause-named : goal.fun_clause-requires-clause-named
fun_clause-requires-clause-named c =
    let e = c.as_str.ensures in
    let g = c.as_slice.ensures in
    let d = c.in-Fun.is in
    let h : c.args.heading.now ≡ decl.Fun c.as_str.result.now c.as_slice.result.now c.in-Fun.result = cc in
    fun_named c.args.theory.now.decls (Some c.args.heading.now) c.requires.heading c.requires.theory c.as_str.result.now c.as_slice.result.now c.in-Fun.result (ap Some h)

pub rel_clause-requires-clause-heading : goal.rel_clause-requires-clause-heading
rel_clause-requires-clause-heading c =
    let e = c.as_str-in-Rel.ensures in
    let g = c.as_slice-in-Rel.ensures in
    let d = c.in-Rel.is in
    let h : c.args.heading.now ≡ decl.Rel c.as_str-in-Rel.result.now c.as_slice-in-Rel.result.now = cc in
    rel_declared c.args.theory.now.decls (Some c.args.heading.now) c.requires.heading c.as_str-in-Rel.result.now c.as_slice-in-Rel.result.now (ap Some h)

pub rel_clause-requires-clause-named : goal.rel_clause-requires-clause-named
rel_clause-requires-clause-named c =
    let e = c.as_str-in-Rel.ensures in
    let g = c.as_slice-in-Rel.ensures in
    let d = c.in-Rel.is in
    let h : c.args.heading.now ≡ decl.Rel c.as_str-in-Rel.result.now c.as_slice-in-Rel.result.now = cc in
    rel_named c.args.theory.now.decls (Some c.args.heading.now) c.requires.heading c.requires.theory c.as_str-in-Rel.result.now c.as_slice-in-Rel.result.now (ap Some h)

pub returns-in_default-clause-told : goal.returns-in_default-clause-told
returns-in_default-clause-told c =
    other_heading c.args.theory.now.decls (Some c.args.heading.now) c.requires.heading c.args.heading.now refl
    (is_no_heading c.args.heading.now c.in_default.not-Fun c.in_default.not-Rel) c.args.words.now
