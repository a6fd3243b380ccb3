use Rattle.std.proofs.Common.{◌≡◌, ◌++◌, drop}
use Rattle.gob_bytes.specs.Tables.{at_name, names_of}
use Rattle.gob_jobs.specs.Reading.{branches_told}
use Rattle.gob_job.specs.KeysKnown.{unknown_of}
use Rattle.gob_job.proofs.unknown.unknown_keys.Given as goal

abbrev pub invariant-loop-i : goal.invariant-loop-i
invariant-loop-i l =
    l.unknown ++ unknown_of (branches_told (at_name l.props)) (names_of (drop l.i l.props))
    ≡ unknown_of (branches_told (at_name l.props)) (names_of l.props)
