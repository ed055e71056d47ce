-- Private: the text of some values with a comma between.
use Rattle.std.specs.Prelude.{ℕ, Bool, true, false, List, [], ◌∷◌, ◌++◌, codes, map}
use Rattle.std.specs.List.{concat}
use Rattle.syn_value.specs.declared.tree.ValueTree.{ValueTree}
use Rattle.syn_value.specs.Texts.{separated, value_text, value_tokens}

abbrev pub items_text : List ValueTree → List ℕ
items_text values = concat (separated (map value_tokens values))

-- a comma, where one is wanted
abbrev pub comma_text : Bool → List ℕ
comma_text true = codes ","
comma_text false = []

-- the text of some values behind others, or of all
abbrev pub next_items : Bool → List ValueTree → List ℕ
next_items comma [] = []
next_items comma (v ∷ vs) = comma_text comma ++ (value_text v ++ next_items true vs)
