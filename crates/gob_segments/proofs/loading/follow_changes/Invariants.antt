use Rattle.std.proofs.Common.{◌≡◌, ◌≤◌, take, IfSome}
use Rattle.gob_ledger.specs.Delta.{LeadOn}
use Rattle.gob_segments.specs.Loading.{LedTo}
use Rattle.gob_state.specs.Versions.{version_of}
use Rattle.gob_segments.proofs.loading.follow_changes.Given as goal

abbrev pub invariant-loop-name : goal.invariant-loop-name
invariant-loop-name g l = record {
  leads : IfSome (g.V.Volume.disk l.initial.volume) (λ d.
      LeadOn l.job d.files (version_of l.version) l.fn.base (take l.name-index l.names) l.state);
  led : LedTo l.fn.base l.name-index l.state;
  disk : g.V.Volume.disk l.volume ≡ g.V.Volume.disk l.initial.volume;
  goes_on : g.V.Volume.faults l.initial.volume ≤ g.V.Volume.faults l.volume;
}
