use Rattle.std.proofs.Common.{◌≡◌, All, map, take}
use Rattle.std.specs.List.{filter}
use Rattle.std.specs.Str.{IsUtf8}
use Rattle.gob_io.specs.Listing.{entry_of}
use Rattle.gob_ledger.specs.Units.{is_kept}
use Rattle.gob_cut.proofs.listing.kept_parts.Given as goal

abbrev pub invariant-loop-part : goal.invariant-loop-part
invariant-loop-part l = record {
  kept : l.kept.items ≡ filter (λ e. is_kept l.limits e.0) (map entry_of (take l.part-index l.parts));
  texts : All (λ e. IsUtf8 e.0) l.kept.items;
}
