-- As what a refusal is told.
use Rattle.gob_texts.specs.Refusals as texts
use Rattle.gob_report.specs.declared.refusal.Refusal.{Refusal}
use Rattle.gob_report.specs.declared.refusal.Refusal.TheVariants as made

abbrev pub told_as : Refusal → texts.Refusal
told_as made.Usage = texts.usage
told_as made.NoJob = texts.no_job
told_as made.NotUtf8 = texts.not_utf8
told_as (made.BadEscape line) = texts.bad_escape line
told_as (made.Missing key) = texts.missing key
told_as (made.BadValue key) = texts.bad_value key
told_as (made.BadPolicyCount key) = texts.bad_policy_count key
told_as (made.NoColumn key column) = texts.no_column key column
told_as (made.BadKind key column) = texts.bad_kind key column
told_as (made.Interpolation key) = texts.interpolation key
told_as (made.Damaged name) = texts.damaged name
told_as (made.Shrunk part next size) = texts.shrunk part next size
told_as made.SourceFault = texts.source_fault
told_as made.VolumeFault = texts.volume_fault
told_as made.Memory = texts.memory
told_as (made.Full ranges units) = texts.full ranges units
