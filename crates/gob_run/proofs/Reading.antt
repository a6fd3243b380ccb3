-- What a reader meets who doesn't wait for recovery: each published file of each map is clean, and expected of the
-- state after the run.
use Rattle.std.proofs.Common.{◌≡◌, ◌⊎◌, ⊎_elim, ℕ, true, List, [], ◌∷◌, ◌++◌, refl, sym, ap, subst, ◌∙◌}
use Rattle.std.proofs.Common.{Some}
use Rattle.std.proofs.Common.{option_map}
use Rattle.std.specs.declared.option.Option.{Option}
use Rattle.std.specs.List.{Contains}
use Rattle.gob_bytes.specs.Paths.{is_published}
use Rattle.gob_bytes.specs.Tables.{IsInByteOrder, names_of}
use Rattle.gob_device.specs.Disk.{EachOf, File, Files, clean}
use Rattle.gob_device.specs.Supply.{Held}
use Rattle.gob_device.proofs.Trail.{each-map}
use Rattle.gob_meaning.specs.Job.{Job}
use Rattle.gob_jobs.specs.Plans.{TellsPlan}
use Rattle.gob_ledger.specs.Archive.{Agrees}
use Rattle.gob_ledger.specs.Delta.{state_of}
use Rattle.gob_ledger.specs.Expected.{IsExpected}
use Rattle.gob_ledger.specs.Next.{Judged}
use Rattle.gob_ledger.specs.State.{State}
use Rattle.gob_ledger.proofs.Expecting.{next_keeps}
use Rattle.gob_ledger.proofs.Members.{none_in, in_cases}
use Rattle.gob_ledger.proofs.OneState.{keeps_one}
use Rattle.gob_recovery.specs.Settle.{Settles}
use Rattle.gob_history.specs.Laws.{AllDurable, BeginsWith, LeftAlong}
use Rattle.gob_history.specs.Runs.{Readable, after_group, after_groups, chain_from, done_in, group_units}
use Rattle.gob_history.specs.Runs.{group_verdicts}
use Rattle.gob_history.specs.Runs.{next_of_group, run_groups, state_after, stored_where}
use Rattle.gob_history.specs.Sound.{IsDurable, Stores}
use Rattle.gob_history.proofs.Left.{groups_steady}
use Rattle.gob_history.proofs.Steadied.{steadied}
use Rattle.gob_history.proofs.Composes.{after_more}
use Rattle.gob_run.specs.Answers.{ReadersOfRun, ReadersOfSettling}
use Rattle.gob_run.proofs.Readers.{durable_readable}

-- the state expects this file
abbrev Expects : List ℕ → Held → Option State → List ℕ → List ℕ → Type 0
Expects job archive o name bytes = (s : State) × (o ≡ Some s) × IsExpected job s archive name bytes

-- a clean file that the state expects
abbrev IsRight : List ℕ → Held → Option State → List ℕ → File → Type 0
IsRight job archive o name f =
    (bytes : List ℕ) × (f ≡ clean bytes) × (s : State) × (o ≡ Some s) × IsExpected job s archive name bytes

-- ---- what is expected stays expected

stored_expects : (job name bytes : List ℕ) (archive : Held) (s next : State) (done : List Judged)
    → IsExpected job s archive name bytes → IsExpected job next archive name bytes
    → Expects job archive (stored_where (Some s) next done) name bytes
stored_expects job name bytes archive s next [] old new = (s, refl, old)
stored_expects job name bytes archive s next (d ∷ ds) old new = (next, refl, new)

group_expects : (job : Job) (archive : Held) (o : Option State) (g : List Judged) (name bytes : List ℕ)
    → Expects job.name archive o name bytes → Expects job.name archive (after_group job o g) name bytes
group_expects job archive o g name bytes (s, is, e) =
    subst (λ p. Expects job.name archive (after_group job p g) name bytes) (sym is)
    (stored_expects job.name name bytes archive s (next_of_group job (Some s) g) (done_in job g) e
    (next_keeps job.name s job.pipeline (group_units g) (group_verdicts g) job.policy archive name bytes e))

groups_expect : (job : Job) (archive : Held) (gs : List (List Judged)) (o : Option State) (name bytes : List ℕ)
    → Expects job.name archive o name bytes → Expects job.name archive (after_groups job o gs) name bytes
groups_expect job archive [] o name bytes e = e
groups_expect job archive (g ∷ gs) o name bytes e =
    groups_expect job archive gs (after_group job o g) name bytes (group_expects job archive o g name bytes e)

right_later : (job : Job) (archive : Held) (gs : List (List Judged)) (o : Option State) (name : List ℕ) (f : File)
    → IsRight job.name archive o name f → IsRight job.name archive (after_groups job o gs) name f
right_later job archive gs o name f (bytes, is, s, e, expected) =
    let later = groups_expect job archive gs o name bytes (s, e, expected) in
    (bytes, is, later.0, later.1, later.2)

-- a file of one of the maps between the groups' commits
among_right : (job : Job) (archive : Held) (gs : List (List Judged)) (o : Option State) (maps : List Files) (k : Files)
    (name : List ℕ) (f : File) → AllDurable job.name archive (chain_from job o gs) maps → Contains maps k
    → is_published job.name name ≡ true → k name ≡ Some f → IsRight job.name archive (after_groups job o gs) name f
among_right job archive gs o [] k name f durable among published here = none_in k among
among_right job archive [] o (m ∷ ms) k name f durable among published here = ⊎_elim
    (λ is. durable_readable job.name archive o m durable.0 name f published
    (subst (λ n. n name ≡ Some f) (sym is) here))
    (λ later. nothing_behind ms durable.1 later)
    (in_cases m ms k among)
  where
    nothing_behind : (rest : List Files) → AllDurable job.name archive [] rest → Contains rest k
        → IsRight job.name archive o name f
    nothing_behind [] none later = none_in k later
    nothing_behind (n ∷ ns) none later = absurd none
among_right job archive (g ∷ gs) o (m ∷ ms) k name f durable among published here = ⊎_elim
    (λ is. right_later job archive (g ∷ gs) o name f
    (durable_readable job.name archive o m durable.0 name f published (subst (λ n. n name ≡ Some f) (sym is) here)))
    (λ later. among_right job archive gs (after_group job o g) ms k name f durable.1 later published here)
    (in_cases m ms k among)

-- ---- a run's maps

-- each published file of the map is one that the first map has or one of these
abbrev pub PublishedAmong : List ℕ → Files → List Files → Files → Type 0
PublishedAmong job m maps n = (name : List ℕ) (f : File) → is_published job name ≡ true → n name ≡ Some f
    → (m name ≡ Some f) ⊎ ((k : Files) × Contains maps k × (k name ≡ Some f))

pub readers_of_run : (job : Job) (held : Held) (failing : List ℕ) (m settled : Files) (o : Option State)
    (before rest : List (List Judged)) (maps added : List Files) → TellsPlan job → IsInByteOrder (names_of held)
    → Settles job.name m settled → Stores job.name settled o → run_groups job held failing o ≡ before ++ rest
    → BeginsWith settled maps → LeftAlong job held o before maps
    → EachOf (PublishedAmong job.name m maps) added → ReadersOfRun job held failing m added
readers_of_run job held failing m settled o before rest maps added tells order settles stores groups begins along each
    archive p agrees all readable =
    let durable = (steadied job.name archive p settled m all settles).0 in
    let same = stores_one p durable.stores in
    subst (λ q. EachOf (Readable job.name archive (state_after job held failing q)) added) (sym same)
    (subst (λ q. EachOf (Readable job.name archive q) added) (sym (ap (after_groups job o) groups))
    (every archive agrees (subst (λ q. IsDurable job.name archive q settled) same durable)
    (subst (λ q. Readable job.name archive q m) same readable) added each))
  where
    stores_one : (q : Option State) → Stores job.name settled q → q ≡ o
    stores_one q (k, keeps, is) =
        sym is ∙ ap (option_map state_of) (keeps_one job.name settled k stores.0 keeps stores.1) ∙ stores.2

    one : (archive : Held) → Agrees archive held → IsDurable job.name archive o settled
        → Readable job.name archive o m → (n : Files) → PublishedAmong job.name m maps n
        → Readable job.name archive (after_groups job o (before ++ rest)) n
    one archive agrees durable readable n among name f published here = ⊎_elim
        (λ old. right_later job archive (before ++ rest) o name f (readable name f published old))
        (λ new. subst (λ q. IsRight job.name archive q name f) (sym (after_more job before rest o))
        (right_later job archive rest (after_groups job o before) name f
        (among_right job archive before o maps new.0 name f
        (groups_steady job archive held settled o failing before rest maps tells agrees order durable groups begins
        along) new.1 published new.2)))
        (among name f published here)

    every : (archive : Held) → Agrees archive held → IsDurable job.name archive o settled
        → Readable job.name archive o m → (ns : List Files) → EachOf (PublishedAmong job.name m maps) ns
        → EachOf (Readable job.name archive (after_groups job o (before ++ rest))) ns
    every archive agrees durable readable [] none = tt
    every archive agrees durable readable (n ∷ ns) each =
        (one archive agrees durable readable n each.0, every archive agrees durable readable ns each.1)

-- a run that has committed nothing yet
pub readers_of_entering : (job : Job) (held : Held) (failing : List ℕ) (m : Files) (added : List Files)
    → ReadersOfSettling job.name m added → ReadersOfRun job held failing m added
readers_of_entering job held failing m added reads = λ archive o agrees all readable.
    each-map (Readable job.name archive o) (Readable job.name archive (state_after job held failing o)) added
    (λ n h name f published here. right_later job archive (run_groups job held failing o) o name f
    (h name f published here))
    (reads archive o all readable)
