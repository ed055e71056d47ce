-- A kept value's number, items and parts, read off its node.
use Rattle.std.proofs.Common.{◌≡◌, ℕ, Some, None, ap, ◌∙◌}
use Rattle.syn_value.specs.declared.nodes.Seq.{Seq}
use Rattle.syn_value.specs.declared.nodes.Node.TheVariants as node
use Rattle.syn_value.specs.inner.Nodes.{items, meaning}
use Rattle.syn_value.specs.Values.{list_of, number_of, tuple_of}
use Rattle.syn_value.proofs.Meanings.{meaning-Num, meaning-List, meaning-Tuple}
use Rattle.syn_value.proofs.Trees.{number_of-Num, number_of-List, number_of-Tuple, list_of-Num, list_of-List, list_of-Tuple, tuple_of-Num, tuple_of-List, tuple_of-Tuple}

pub number_Num : (n : ℕ) → number_of (meaning (node.Num n)) ≡ Some n
number_Num n = ap number_of (meaning-Num n) ∙ number_of-Num n

pub number_List : (s : Seq) → number_of (meaning (node.List s)) ≡ None
number_List s = ap number_of (meaning-List s) ∙ number_of-List (items s)

pub number_Tuple : (s : Seq) → number_of (meaning (node.Tuple s)) ≡ None
number_Tuple s = ap number_of (meaning-Tuple s) ∙ number_of-Tuple (items s)

pub list_Num : (n : ℕ) → list_of (meaning (node.Num n)) ≡ None
list_Num n = ap list_of (meaning-Num n) ∙ list_of-Num n

pub list_List : (s : Seq) → list_of (meaning (node.List s)) ≡ Some (items s)
list_List s = ap list_of (meaning-List s) ∙ list_of-List (items s)

pub list_Tuple : (s : Seq) → list_of (meaning (node.Tuple s)) ≡ None
list_Tuple s = ap list_of (meaning-Tuple s) ∙ list_of-Tuple (items s)

pub tuple_Num : (n : ℕ) → tuple_of (meaning (node.Num n)) ≡ None
tuple_Num n = ap tuple_of (meaning-Num n) ∙ tuple_of-Num n

pub tuple_List : (s : Seq) → tuple_of (meaning (node.List s)) ≡ None
tuple_List s = ap tuple_of (meaning-List s) ∙ tuple_of-List (items s)

pub tuple_Tuple : (s : Seq) → tuple_of (meaning (node.Tuple s)) ≡ Some (items s)
tuple_Tuple s = ap tuple_of (meaning-Tuple s) ∙ tuple_of-Tuple (items s)

pub ruleset layers = (number_Num, number_List, number_Tuple, list_Num, list_List, list_Tuple, tuple_Num, tuple_List, tuple_Tuple)
