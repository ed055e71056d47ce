-- The printed text depends on the tree alone: places don't show in it.
use Rattle.std.proofs.Common.{◌≡◌, List, [], ◌∷◌, ◌++◌, ℕ, map, codes, sym, ◌∙◌, ap, refl, subst, append_assoc}
use Rattle.syn_term.specs.declared.sorts.SymId.{SymId}
use Rattle.syn_term.specs.declared.sorts.Var.{Var}
use Rattle.syn_term.specs.declared.term.Place.{Place}
use Rattle.syn_term.specs.declared.term.Node.{Node, roll-Node, fold-roll-Node, map-Node, ind-Node}
use Rattle.syn_term.specs.declared.term.Node.TheOpen.{Node-F}
use Rattle.syn_term.specs.declared.term.Node.TheVariants as node
use Rattle.syn_term.specs.declared.term.Node.TheViews as view
use denote.Hole.Carrier.{roll}
use Rattle.syn_term.specs.Symbols.{SymbolTable, symbol_at}
use Rattle.syn_term.specs.Terms.{application, bare, bare_step, nowhere, variable_tree}
use Rattle.syn_app.specs.Trees.{TheoryTree}
use Rattle.syn_app.specs.ProgramText.{Printed, printed_program, printed_term, symbol_printed}
use Rattle.syn_app.specs.inner.Printing.{nat_program, nat_program_symbols, printing_of}
use Rattle.syn_app.proofs.PrintedText.{printing-App, printing-Var}

-- a variable and a symbol with arguments, their places left out
bare-Var : (p : Place) (v : Var) → bare (node.Var p v) ≡ variable_tree v
unfolding roll-Node roll
bare-Var p v = fold-roll-Node Node bare_step (Node-F.Var p v)

bare-App : (p : Place) (f : SymId) (args : List Node) → bare (view.App p f args) ≡ application f (map bare args)
unfolding roll-Node roll
bare-App p f args = fold-roll-Node Node bare_step (Node-F.App p f args)

module _ (table : SymbolTable) where
  -- the tree with its places left out prints the same
  abbrev IsSame : Node → Type 0
  IsSame t = printing_of table (bare t) ≡ printing_of table t

  -- a child of which this is known
  abbrev Child : Type 0
  Child = (t : Node) × IsSame t

  -- each child printed the same, so all of them in their order
  children_same : (cs : List Child) → map (printing_of table) (map bare (map (λ c. c.0) cs)) ≡ map (printing_of table) (map (λ c. c.0) cs)
  children_same [] = refl
  children_same (c ∷ cs) = ap (λ (q : Printed). q ∷ map (printing_of table) (map bare (map (λ c. c.0) cs))) c.1 ∙ ap (λ (z : List Printed). printing_of table c.0 ∷ z) (children_same cs)

  -- a variable prints the same, and so does a symbol whose arguments do
  variable_same : (p : Place) (v : Var) → IsSame (node.Var p v)
  variable_same p v = ap (printing_of table) (bare-Var p v) ∙ (printing-Var table nowhere v ∙ sym (printing-Var table p v))

  application_same : (p : Place) (f : SymId) (xs : List Node) → map (printing_of table) (map bare xs) ≡ map (printing_of table) xs → IsSame (view.App p f xs)
  application_same p f xs same =
      ap (printing_of table) (bare-App p f xs) ∙ (printing-App table nowhere f (map bare xs) ∙ (ap (symbol_printed (symbol_at table f)) same ∙ sym (printing-App table p f xs)))

  node_same : (y : Node-F Child) → IsSame (roll-Node (map-Node Child Node (λ c. c.0) y))
  unfolding roll-Node roll
  node_same (Node-F.Var p v) = variable_same p v
  node_same (Node-F.App p f cs) = application_same p f (map (λ c. c.0) cs) (children_same cs)

  printing_bare : (t : Node) → IsSame t
  printing_bare = ind-Node IsSame (λ x y is. subst (λ (z : Node-F Node). IsSame (roll-Node z)) is (node_same y))

  -- the text is that of the tree with its places left out
  pub printed_bare : (t : Node) → printed_term table (bare t) ≡ printed_term table t
  printed_bare t = ap (λ (q : Printed). q.text) (printing_bare t)

-- the pieces that are put, grouped as in the definition
regroup_pieces : (a n b i c d e f g t h : List ℕ) → a ++ n ++ b ++ i ++ (c ++ (d ++ (e ++ (f ++ g)))) ++ t ++ h ≡ a ++ n ++ b ++ (i ++ c ++ d) ++ e ++ f ++ g ++ t ++ h
regroup_pieces a n b i c d e f g t h = simp append_assoc refl

regroup_program : (name input text : List ℕ) → codes "program " ++ name ++ codes "(" ++ input ++ codes ": nat): nat\n  " ++ text ++ codes "\n" ≡ codes "program " ++ name ++ codes "(" ++ (input ++ codes ": " ++ codes "nat") ++ codes "): " ++ codes "nat" ++ codes "\n  " ++ text ++ codes "\n"
regroup_program name input text = regroup_pieces (codes "program ") name (codes "(") input (codes ": ") (codes "nat") (codes "): ") (codes "nat") (codes "\n  ") text (codes "\n")

-- a program, put piece by piece
pub program_put : (table : SymbolTable) (name input : List ℕ) (body : Node) (o p q r s t u v : List ℕ) → table ≡ nat_program_symbols name input → o ≡ [] → p ≡ o ++ codes "program " → q ≡ p ++ name → r ≡ q ++ codes "(" → s ≡ r ++ input → t ≡ s ++ codes ": nat): nat\n  " → u ≡ t ++ printed_term table body → v ≡ u ++ codes "\n" → (theory : TheoryTree) → v ≡ printed_program theory (nat_program name input body)
program_put table name input body o p q r s t u v is put_o put_p put_q put_r put_s put_t put_u put_v theory =
    let body_text : printed_term table body ≡ printed_term (nat_program_symbols name input) (bare body) = sym (printed_bare table body) ∙ ap (λ (z : SymbolTable). printed_term z (bare body)) is in
    let named : q ≡ codes "program " ++ name = put_q ∙ ap (λ (z : List ℕ). z ++ name) (put_p ∙ ap (λ (z : List ℕ). z ++ codes "program ") put_o) in
    let head : t ≡ codes "program " ++ name ++ codes "(" ++ input ++ codes ": nat): nat\n  " = put_t ∙ ap (λ (z : List ℕ). z ++ codes ": nat): nat\n  ") (put_s ∙ ap (λ (z : List ℕ). z ++ input) (put_r ∙ ap (λ (z : List ℕ). z ++ codes "(") named)) in
    let whole : u ≡ codes "program " ++ name ++ codes "(" ++ input ++ codes ": nat): nat\n  " ++ printed_term (nat_program_symbols name input) (bare body) = put_u ∙ (ap (λ (z : List ℕ). z ++ printed_term table body) head ∙ ap (λ (z : List ℕ). codes "program " ++ name ++ codes "(" ++ input ++ codes ": nat): nat\n  " ++ z) body_text) in
    put_v ∙ (ap (λ (z : List ℕ). z ++ codes "\n") whole ∙ regroup_program name input (printed_term (nat_program_symbols name input) (bare body)))
