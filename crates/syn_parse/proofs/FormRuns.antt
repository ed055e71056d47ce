-- Runs of the reader of formulas in a row, for whoever reads a formula within something longer.
use Rattle.std.proofs.Common.{◌≡◌, List, [], ◌∷◌, ◌++◌, Option, None, Some, option_and_then, refl}
use Rattle.syn_parse.specs.declared.items.Item.{Item}
use Rattle.syn_parse.specs.declared.form_reader.FormReader.{FormReader}
use Rattle.syn_parse.specs.inner.FormMachine.{run, step}

both_runs : (xs ys : List Item) → ((s : FormReader) → run (xs ++ ys) s ≡ option_and_then (run ys) (run xs s)) → (o : Option FormReader) → option_and_then (run (xs ++ ys)) o ≡ option_and_then (run ys) (option_and_then (run xs) o)
both_runs xs ys h None = refl
both_runs xs ys h (Some s) = h s

-- items after items
pub run-append : (xs ys : List Item) (r : FormReader) → run (xs ++ ys) r ≡ option_and_then (run ys) (run xs r)
run-append [] ys r = refl
run-append (x ∷ xs) ys r = both_runs xs ys (λ s. run-append xs ys s) (step r x)
