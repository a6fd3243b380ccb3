use Rattle.std.proofs.Common.{◌≡◌, ◌++◌, length, string_bytes, option_map, encode_utf8_all}
use Rattle.gob_props.specs.Properties.{without_escapes}
use Rattle.gob_props.proofs.entry.unescape.Given as goal

abbrev pub invariant-loop-left : goal.invariant-loop-left
invariant-loop-left l = option_map (λ cs. string_bytes l.out ++ encode_utf8_all cs) (without_escapes l.left) ≡
    option_map encode_utf8_all (without_escapes l.text)

abbrev pub decreases-loop-left : goal.decreases-loop-left
decreases-loop-left l = length l.left
