-- What the printer of a specification puts, piece by piece.
use Rattle.std.proofs.Common.{◌≡◌, ℕ, ◌≤◌, List, [], ◌∷◌, ◌++◌, Option, Some, codes, length, map, take, refl, ◌∙◌, ap, append_assoc}
use Rattle.std.specs.List.{flat_map}
use Rattle.std.proofs.lemmas.List.{take_all}
use Rattle.syn_term.specs.declared.sorts.Sort.{Sort}
use Rattle.syn_term.specs.declared.sorts.Sym.{Sym}
use Rattle.syn_term.specs.declared.sorts.SymId.{SymId}
use Rattle.syn_term.specs.Symbols.{SymbolTable, symbol_at}
use Rattle.syn_form.specs.Printing.{name_of, sort_text}
use Rattle.syn_lex.specs.TextLines.{with_feed}
use Rattle.syn_model.specs.declared.spec_part.SpecPart.{SpecPart}
use Rattle.syn_model.specs.Heads.{HeadTree, Param, input_symbol, program_symbol}
use Rattle.syn_model.specs.Specifications.{SpecTree}
use Rattle.syn_files.specs.Printed.{comma_list, in_brackets_text, parameter_text}
use Rattle.syn_files.specs.PrintedSpec.{printed_head, printed_part, printed_spec}
use Rattle.syn_files.specs.inner.Entries.{called_text, input_text, result_text}

-- an input is put by its symbol
abbrev text_of : SymbolTable → Option Sym → List ℕ
text_of table o = name_of o ++ codes ": " ++ result_text table o

inputs_texts : (table : SymbolTable) (ids : List SymId) (ps : List Param) → map (symbol_at table) ids ≡ map (λ (p : Param). Some (input_symbol p)) ps → map (input_text table) ids ≡ map (parameter_text table) ps
inputs_texts table [] [] e = refl
inputs_texts table [] (p ∷ ps) e = absurd (cc)
inputs_texts table (id ∷ ids) [] e = absurd (cc)
inputs_texts table (id ∷ ids) (p ∷ ps) e =
    let here : symbol_at table id ≡ Some (input_symbol p) = cc in
    let rest : map (symbol_at table) ids ≡ map (λ (q : Param). Some (input_symbol q)) ps = cc in
    ap (λ (z : List ℕ). z ∷ map (input_text table) ids) (ap (text_of table) here) ∙ ap (λ (z : List (List ℕ)). parameter_text table p ∷ z) (inputs_texts table ids ps rest)

-- the program with its inputs, by their numbers
pub called_is : (table : SymbolTable) (h : HeadTree) (program : SymId) (ids : List SymId) → symbol_at table program ≡ Some (program_symbol h) → map (symbol_at table) ids ≡ map (λ (p : Param). Some (input_symbol p)) h.inputs → called_text table program ids ≡ codes "program " ++ in_brackets_text h.program (map (parameter_text table) h.inputs)
called_is table h program ids own are =
    ap (λ (z : List ℕ). codes "program " ++ in_brackets_text z (map (input_text table) ids)) (ap name_of own)
    ∙ ap (λ (z : List (List ℕ)). codes "program " ++ in_brackets_text h.program z) (inputs_texts table ids h.inputs are)

-- it was put
pub program_put : (syms table : SymbolTable) (h : HeadTree) (program : SymId) (ids : List SymId) (old new : List ℕ) → syms ≡ table → symbol_at table program ≡ Some (program_symbol h) → map (symbol_at table) ids ≡ map (λ (p : Param). Some (input_symbol p)) h.inputs → new ≡ old ++ called_text syms program ids → new ≡ old ++ (codes "program " ++ in_brackets_text h.program (map (parameter_text table) h.inputs))
program_put syms table h program ids old new same own are put =
    put ∙ ap (λ (z : List ℕ). old ++ z) (ap (λ (t : SymbolTable). called_text t program ids) same ∙ called_is table h program ids own are)

-- and the sort of its result behind it
pub program_head_put : (syms table : SymbolTable) (h : HeadTree) (program : SymId) (ids : List SymId) (s : Sort) (name old first second new : List ℕ) → syms ≡ table → symbol_at table program ≡ Some (program_symbol h) → map (symbol_at table) ids ≡ map (λ (p : Param). Some (input_symbol p)) h.inputs → s ≡ h.result → first ≡ old ++ called_text syms program ids → second ≡ first ++ codes ": " → name ≡ sort_text syms s → new ≡ second ++ name → new ≡ old ++ (codes "program " ++ in_brackets_text h.program (map (parameter_text table) h.inputs) ++ codes ": " ++ sort_text table h.result)
program_head_put syms table h program ids s name old first second new same own are sorted put_first put_colon named put_name =
    let called = program_put syms table h program ids old first same own are put_first in
    let value : name ≡ sort_text table h.result = named ∙ (ap (λ (t : SymbolTable). sort_text t s) same ∙ ap (sort_text table) sorted) in
    put_name
    ∙ (ap (λ (z : List ℕ). second ++ z) value
    ∙ (ap (λ (z : List ℕ). z ++ sort_text table h.result) (put_colon ∙ ap (λ (z : List ℕ). z ++ codes ": ") called)
    ∙ in_turn old (codes "program " ++ in_brackets_text h.program (map (parameter_text table) h.inputs)) (sort_text table h.result)))
  where
    in_turn : (o f t : List ℕ) → ((o ++ f) ++ codes ": ") ++ t ≡ o ++ (f ++ codes ": " ++ t)
    in_turn o f t = simp append_assoc refl

-- a text is put as it is
abbrev pub itself : List ℕ → List ℕ
itself name = name

each_itself : (names : List (List ℕ)) → map itself names ≡ names
each_itself [] = refl
each_itself (n ∷ ns) = ap (λ (z : List (List ℕ)). n ∷ z) (each_itself ns)

-- all names were put
pub names_put : (names : List (List ℕ)) (i : ℕ) (old new : List ℕ) → length names ≤ i → new ≡ old ++ comma_list (map itself (take i names)) → new ≡ old ++ comma_list names
names_put names i old new end put = put ∙ ap (λ (z : List (List ℕ)). old ++ comma_list z) (ap (map itself) (take_all i names end) ∙ each_itself names)

-- the title, the head and the parts were put, each with a line feed
pub spec_put : (s : SpecTree) (parts : List SpecPart) (name old first second third fourth fifth new : List ℕ) → name ≡ s.name → parts ≡ s.parts → first ≡ old ++ codes "spec " → second ≡ first ++ name → third ≡ second ++ codes "\n" → fourth ≡ third ++ printed_head s → fifth ≡ fourth ++ codes "\n" → new ≡ fifth ++ flat_map with_feed (map (printed_part s) parts) → new ≡ old ++ printed_spec s
spec_put s parts name old first second third fourth fifth new named are put_first put_name put_break put_head put_feed put_parts =
    let lines = flat_map with_feed (map (printed_part s) s.parts) in
    put_parts
    ∙ (ap (λ (z : List SpecPart). fifth ++ flat_map with_feed (map (printed_part s) z)) are
    ∙ (ap (λ (z : List ℕ). z ++ lines) (put_feed ∙ ap (λ (z : List ℕ). z ++ codes "\n") (put_head ∙ ap (λ (z : List ℕ). z ++ printed_head s) (put_break ∙ ap (λ (z : List ℕ). z ++ codes "\n") (put_name ∙ (ap (λ (z : List ℕ). first ++ z) named ∙ ap (λ (z : List ℕ). z ++ s.name) put_first)))))
    ∙ in_turn old (codes "spec ") s.name (codes "\n") (printed_head s) lines))
  where
    in_turn : (o a n f h l : List ℕ) → (((((o ++ a) ++ n) ++ f) ++ h) ++ f) ++ l ≡ o ++ (((a ++ n) ++ f) ++ ((h ++ f) ++ l))
    in_turn o a n f h l = simp append_assoc refl
