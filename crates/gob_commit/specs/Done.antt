-- What the commits of a run's first groups have done.
use Rattle.std.specs.Prelude.{◌≡◌, ℕ, true, List, [], ◌∷◌}
use Rattle.std.specs.declared.option.Option.{Option}
use Rattle.std.specs.declared.option.Option.TheVariants.{Some}
use Rattle.std.specs.List.{Contains, flat_map}
use Rattle.gob_bytes.specs.Paths.{is_published}
use Rattle.gob_device.specs.Disk.{File, Files}
use Rattle.gob_device.specs.Supply.{Held}
use Rattle.gob_meaning.specs.Job.{Job}
use Rattle.gob_ledger.specs.State.{State}
use Rattle.gob_ledger.specs.Next.{Judged}
use Rattle.gob_ledger.specs.Delta.{Kept, KeepsAs}
use Rattle.gob_ledger.specs.Expected.{IsPublished}
use Rattle.gob_recovery.specs.Settle.{IsSettled}
use Rattle.gob_history.specs.Runs.{GroupsLeft, done_in, kept_after}
use Rattle.gob_history.specs.Laws.{BeginsWith, LeftAlong}

-- the last of some maps
abbrev pub EndsWith : Files → List Files → Type 0
EndsWith m [] = ⊥
EndsWith m (n ∷ []) = m ≡ n
EndsWith m (n ∷ k ∷ ks) = EndsWith m (k ∷ ks)

-- each published file of the map is one that one of these maps has
abbrev pub PublishedFrom : List ℕ → List Files → Files → Type 0
PublishedFrom job maps n = (name : List ℕ) (f : File) → is_published job name ≡ true → n name ≡ Some f
    → (k : Files) × Contains maps k × (k name ≡ Some f)

-- the groups before were committed one after the other, over a settled map that stores this state: each commit left a
-- settled map, and the last one tells what the groups have made
pub record GroupsDone (job : Job) (held : Held) (o : Option State) (settled : Files) (before : List (List Judged))
    (last : Files) (maps : List Files) : Type 0 where
  pub begins : BeginsWith settled maps
  pub ends : EndsWith last maps
  pub along : LeftAlong job held o before maps
  pub left : GroupsLeft job held settled o before last
  pub keeps : (k : Option Kept) → KeepsAs job.name settled k → KeepsAs job.name last (kept_after job k before)
  pub closed : IsSettled job.name last

-- what these groups publish and what the next one does have different names
abbrev pub PublishApart : Job → Held → List (List Judged) → List Judged → Type 0
PublishApart job held before group = (name content other : List ℕ)
    → IsPublished job.name job.plan held (flat_map (done_in job) before) name content
    → IsPublished job.name job.plan held (done_in job group) name other → ⊥
