use Rattle.std.proofs.Common.{◌≡◌, ◌++◌, All, map, length}
use Rattle.std.specs.List.{flat_map}
use Rattle.syn_lex.specs.TextLines.{Without, with_feed}
use Rattle.syn_lex.proofs.lines.cut_at_feeds.Given as goal

abbrev pub invariant-loop-line : goal.invariant-loop-line
invariant-loop-line l = record {
  is : flat_map with_feed (map (λ z. z.now) l.lines.items) ++ l.rest ≡ l.bytes;
  clean : All (Without 10) (map (λ z. z.now) l.lines.items);
}

abbrev pub decreases-loop-line : goal.decreases-loop-line
decreases-loop-line l = length l.rest
