use Rattle.std.proofs.Common.{◌≡◌, ◌++◌, length, map, take}
use denote.Shadow.{shadow}
use denote.Text.{Utf8}
use Rattle.gob_meaning.specs.Steps.{pieces_of}
use Rattle.gob_steps.specs.Places.{row_with}
use Rattle.gob_steps.proofs.pieces.push_each.Given as goal

-- the rows of the pieces found and those of the text that is left are those of all pieces
abbrev pub invariant-loop-piece : goal.invariant-loop-piece
invariant-loop-piece l = record {
  text : shadow (Utf8 l.rest);
  front : take (length l.fn.rows.items) l.rows.items ≡ l.fn.rows.items;
  left : l.rows.items ++ map (row_with l.place l.bare) (pieces_of l.separator l.rest)
      ≡ l.fn.rows.items ++ map (row_with l.place l.bare) (pieces_of l.separator l.fn.text);
}

abbrev pub decreases-loop-piece : goal.decreases-loop-piece
decreases-loop-piece l = length l.rest
