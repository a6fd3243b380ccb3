use Rattle.std.proofs.Common.{◌≡◌, false, ◌++◌, map, nat_eq}
use Rattle.std.specs.List.{list_any}
use Rattle.gob_jobs.specs.Words.{is_empty, pieces, without_blanks}
use Rattle.gob_job.specs.Cuts.{left_length, pieces_left, texts_of}
use Rattle.gob_job.proofs.cuts.elements.Given as goal

abbrev pub invariant-loop-left : goal.invariant-loop-left
invariant-loop-left l = record {
  pieces : map without_blanks (pieces (nat_eq l.fn.separator) l.fn.value) ≡ texts_of l.elements.items
      ++ map without_blanks (pieces_left (nat_eq l.fn.separator) l.left);
  some : list_any is_empty (texts_of l.elements.items) ≡ false;
}

abbrev pub decreases-loop-left : goal.decreases-loop-left
decreases-loop-left l = left_length l.left
