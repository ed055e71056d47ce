-- For public contracts: declarations and theories with the places of their terms left out. Two are the same where these are equal.
use Rattle.std.specs.Prelude.{map}
use Rattle.syn_term.specs.Terms.{bare}
use Rattle.syn_form.specs.Quantified.{bare_qform}
use Rattle.syn_form.specs.Trees.{bare_form, bare_out}
use Rattle.syn_model.specs.declared.decl.Decl.{Decl}
use Rattle.syn_model.specs.declared.decl.Decl.TheVariants as decl
use Rattle.syn_model.specs.Theories.{TheoryTree}

-- the declaration, with the places of its terms left out
abbrev pub bare_decl : Decl → Decl
bare_decl (decl.FunClause args body) = decl.FunClause (map bare args) (bare_out body)
bare_decl (decl.RelClause args body) = decl.RelClause (map bare args) (bare_form body)
bare_decl (decl.Order name args measure) = decl.Order name args (bare measure)
bare_decl (decl.Axiom name form) = decl.Axiom name (bare_qform form)
bare_decl d = d

-- the theory, each of its declarations so
abbrev pub bare_theory_tree : TheoryTree → TheoryTree
bare_theory_tree t = record { name = t.name; decls = map bare_decl t.decls }
