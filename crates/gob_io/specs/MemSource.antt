-- What a source in memory holds and counts.
use Rattle.std.specs.Prelude.{ℕ, List, ◌++◌, map}
use Rattle.gob_bytes.specs.Tables.{with_name}
use Rattle.gob_device.specs.Supply.{Pull, Supply, bytes_at}
use Rattle.gob_memory.specs.declared.counts.Counts.{Counts}
use Rattle.gob_memory.specs.declared.planned.Planned.{Planned}
use Rattle.gob_io.specs.declared.mem_source.MemSource.{MemSource}
use Rattle.gob_io.specs.declared.mem_source.Pulled.{Pulled}

abbrev pub pull_of : Pulled → Pull
pull_of p = record { part = p.part; at = p.at; len = p.len }

abbrev pub supply_of : MemSource → Supply
supply_of s = record { held = s.parts.items; pulls = map pull_of s.pulls.items }

-- how often calls failed
abbrev pub source_counts : MemSource → Counts
source_counts s = s.counts

-- how often a list or a look failed
abbrev pub plan_faults_of : MemSource → ℕ
plan_faults_of s = s.plan_faults

-- which lists are to fail
abbrev pub list_plan : MemSource → Planned
list_plan s = s.lists

-- which looks
abbrev pub look_plan : MemSource → Planned
look_plan s = s.looks

-- which pulls
abbrev pub pull_plan : MemSource → Planned
pull_plan s = s.takes

-- more bytes at the end of a partition, which is made where it isn't there
abbrev pub with_bytes : List ℕ → List ℕ → Supply → Supply
with_bytes part bytes s = record s { held = with_name s.held part (bytes_at s.held part ++ bytes) }
