-- For private contracts: formulas whose variables become default terms.
use Rattle.syn_term.specs.Symbols.{SymbolTable}
use Rattle.syn_form.specs.Inputs.{on_terms}
use Rattle.syn_form.specs.Trees.{FormTree}
use Rattle.syn_extract.specs.Final.{closed_term}

-- the formula with each variable replaced by the default term of its sort
abbrev pub closed_form : SymbolTable → FormTree → FormTree
closed_form table = on_terms (closed_term table)
