-- The names of what units of different partitions publish.
use Rattle.std.proofs.Common.{◌≡◌, List, sym, map, ◌∙◌}
use Rattle.std.specs.List.{Contains}
use Rattle.gob_bytes.proofs.Paths.{cancel_under}
use Rattle.gob_meaning.specs.Job.{Job}
use Rattle.gob_meaning.proofs.Apart.{names_apart}
use Rattle.gob_meaning.proofs.Placed.{sent_is_placed}
use Rattle.gob_ledger.specs.Units.{span_of}
use Rattle.gob_ledger.specs.Next.{Judged, allows}
use Rattle.gob_ledger.specs.Expected.{bytes_of_range}
use Rattle.gob_ledger.proofs.Members.{in_filter, in_flat_map}
use Rattle.gob_history.specs.Runs.{done_in}
use Rattle.gob_commit.specs.Laws.{ApartUnitsPublishApart}

done_is_of : (job : Job) (group : List Judged) (j : Judged) → Contains (done_in job group) j → Contains group j
done_is_of job group j h = (in_filter (λ (k : Judged). allows job.policy (map (λ (i : Judged). i.1) group) k.1) group j
    h).0

pub apart_units : ApartUnitsPublishApart
apart_units job held before group few ranges range apart name content other u v =
    let found = in_flat_map (done_in job) before u.unit u.of_units in
    let first = done_is_of job found.0 u.unit found.2 in
    let second = done_is_of job group v.unit v.of_units in
    let paths : u.path ≡ v.path = cancel_under job.name u.path v.path (sym u.called ∙ v.called) in
    let same = names_apart job.plan job.plan u.unit.0.part v.unit.0.part u.unit.0.lo v.unit.0.lo u.unit.0.hi v.unit.0.hi
    u.made.target v.made.target (ranges found.0 u.unit found.1 first) (range v.unit second)
    (sent_is_placed job.plan u.unit.0.lo (bytes_of_range held u.unit.0.part (span_of u.unit.0)) u.made.target few
    (λ z. u.made.some (sym u.made.sends ∙ z)))
    (sent_is_placed job.plan v.unit.0.lo (bytes_of_range held v.unit.0.part (span_of v.unit.0)) v.made.target few
    (λ z. v.made.some (sym v.made.sends ∙ z)))
    (u.made.called ∙ (paths ∙ sym v.made.called)) in
    apart found.0 found.1 u.unit v.unit first second same.0
