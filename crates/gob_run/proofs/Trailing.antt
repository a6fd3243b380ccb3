-- The maps of a run behind its work, over devices that tell: they go along the run's states, and readers meet what is
-- right.
use Rattle.std.proofs.Common.{◌≡◌, inl, inr, ⊎_elim, ℕ, ◌≤◌, List, [], ◌∷◌, ◌++◌}
use Rattle.std.proofs.Common.{sym, ap, subst, ◌∙◌, Some, append_assoc, IfSome}
use Rattle.std.specs.declared.option.Option.{Option}
use Rattle.std.specs.List.{Contains}
use Rattle.gob_bytes.specs.Paths.{under}
use Rattle.gob_history.proofs.Fronts.{published_unstaged}
use Rattle.gob_device.specs.Disk.{AddsMaps, Along, Both, Disk, EachOf, Files, Went, last_map}
use Rattle.gob_device.specs.Supply.{Held, Supply}
use Rattle.gob_device.proofs.Trail.{each-append, each-map, last-append}
use Rattle.gob_meaning.specs.Job.{Job}
use Rattle.gob_jobs.specs.Laws.{IsJob}
use Rattle.gob_ledger.specs.Next.{Judged}
use Rattle.gob_ledger.specs.Turns.{verdicts_of}
use Rattle.gob_ledger.specs.Units.{UnitsFit, units_of_parts}
use Rattle.gob_ledger.proofs.Members.{first_in}
use Rattle.gob_recovery.specs.Commits.{OnlyBelow}
use Rattle.gob_recovery.specs.Settle.{Settles}
use Rattle.gob_recovery.proofs.Spelled.{to_one}
use Rattle.gob_history.specs.Laws.{BeginsWith, StagedOver}
use Rattle.gob_history.specs.Runs.{TrailOfRun, run_groups, run_units, state_or_empty}
use Rattle.gob_history.specs.Sound.{Stores}
use Rattle.gob_commit.specs.Done.{GroupsDone, PublishedFrom}
use Rattle.gob_commit.proofs.Doing.{all_done}
use Rattle.gob_cut.specs.declared.run_units.Cut.{Cut}
use Rattle.gob_segments.specs.declared.change.Loaded.{Loaded}
use Rattle.gob_seq.specs.Maps.{ImagesSettleTheSame, OnlyUnstages, SettlesByName}
use Rattle.gob_state.specs.Committed.{verdicts_in}
use Rattle.gob_state.specs.declared.next.Outcome.{Outcome}
use Rattle.gob_run.specs.Answers.{PublishesGiven, RunIsFiled, RunIsLeft, TrailIs, groups_by}
use Rattle.gob_run.specs.Cutting.{CutFits, CutIsTold, parts_of}
use Rattle.gob_run.specs.Entry.{StaysDamaged}
use Rattle.gob_run.specs.Faults.{Finds}
use Rattle.gob_run.specs.Working.{FiledAlong, FiledToEnd, WentAlong, WentOver, WentToEnd, groups_over}
use Rattle.gob_run.specs.World.{WorldGoesOn, World}
use Rattle.gob_run.proofs.Began.{Began, entry_of, found_is_one, parts_same}
use Rattle.gob_run.proofs.Entering.{run_trail}
use Rattle.gob_run.proofs.Lasting.{lasting_along}
use Rattle.gob_run.proofs.Published.{publishes_only}
use Rattle.gob_run.proofs.Readers.{published_apart}
use Rattle.gob_run.proofs.Reading.{PublishedAmong, readers_of_run}

-- what settling and loading say, whatever they answer
pub record EntrySays (job : List ℕ) (old mid : Option Disk) (before now : ℕ) : Type 0 where
  pub alike : Along (ImagesSettleTheSame job) old mid
  pub names : Along (SettlesByName job) old mid
  pub staged : Along (OnlyUnstages job) old mid
  pub damaged : Both (StaysDamaged job) old mid
  pub below : Along (OnlyBelow (under job [])) old mid
  pub later : before ≤ now

-- how a run came to its work
pub record IsUnderway (job : Job) (l : Loaded) (cut : Cut) (old mid : World) : Type 0 where
  pub right : IsJob job.name job
  pub found : AddsMaps (Finds job.name l) old.disk mid.disk
  pub alike : Along (ImagesSettleTheSame job.name) old.disk mid.disk
  pub names : Along (SettlesByName job.name) old.disk mid.disk
  pub staged : Along (OnlyUnstages job.name) old.disk mid.disk
  pub below : Along (OnlyBelow (under job.name [])) old.disk mid.disk
  pub fits : CutFits (parts_of l.state) job.limits old.supply cut
  pub supply : mid.supply ≡ old.supply
  pub goes_on : WorldGoesOn old mid

-- the cut over a source that tells
abbrev pub TellsCut : Job → Loaded → Cut → Supply → Type 0
TellsCut job l cut s = CutIsTold (parts_of l.state) job.limits cut s

pub cut_told : (job : Job) (l : Loaded) (cut : Cut) (old mid : World) (s : Supply) → IsUnderway job l cut old mid
    → old.supply ≡ Some s → TellsCut job l cut s
cut_told job l cut old mid s u is = subst (λ o. IfSome o (TellsCut job l cut)) is u.fits.told

pub units_are : (job : Job) (l : Loaded) (cut : Cut) (s : Supply) → TellsCut job l cut s
    → cut.units ≡ run_units job s.held l.state
units_are job l cut s told =
    told.units ∙ ap (λ p. units_of_parts p s.held job.limits) (sym (parts_same job l.state))

groups_are : (job : Job) (l : Loaded) (cut : Cut) (s : Supply) (failing : List ℕ) → TellsCut job l cut s
    → groups_over job s.held cut.units failing ≡ run_groups job s.held failing l.state
groups_are job l cut s failing told = ap (λ u. groups_over job s.held u failing) (units_are job l cut s told)

stores_of : (job : List ℕ) (l : Loaded) (d c : Disk) → Began job l d c → Stores job c.files l.state
stores_of job l d c b = (b.kept, b.keeps, sym b.loaded.state)

-- ---- what readers meet

begins_in : (m : Files) (maps : List Files) → BeginsWith m maps → Contains maps m
begins_in m [] begins = absurd begins
begins_in m (n ∷ ns) begins = first_in n ns m (sym begins)

settling_reads : (job : List ℕ) (m settled : Files) (maps : List Files) (n : Files) → Settles job m settled
    → Contains maps settled → SettlesByName job m n → PublishedAmong job m maps n
settling_reads job m settled maps n settles among by name f published here = ⊎_elim
    (λ same. inl (sym same ∙ here))
    (λ same. inr (settled, among, sym same ∙ here))
    (by settled settles name (published_unstaged job name published) (published_apart job name published))

staged_reads : (job : List ℕ) (m settled : Files) (maps : List Files) (n : Files) → Contains maps settled
    → StagedOver job settled n → PublishedAmong job m maps n
staged_reads job m settled maps n among over name f published here =
    inr (settled, among, sym (over name (published_unstaged job name published)) ∙ here)

-- each published file of each map was found, or is one that some commit left
published_among : (job : Job) (held : Held) (l : Loaded) (groups : List (List Judged)) (d c e : Disk)
    → Began job.name l d c → (w : Went (WentOver job held l.state groups) c e) → (first : List Files)
    → EachOf (SettlesByName job.name d.files) first
    → EachOf (PublishedAmong job.name d.files w.holds.gone.maps) (first ++ w.added)
published_among job held l groups d c e b w first names =
    let maps = w.holds.gone.maps in
    let among = begins_in c.files maps w.holds.gone.done.begins in
    each-append (PublishedAmong job.name d.files maps) first w.added
    (each-map (SettlesByName job.name d.files) (PublishedAmong job.name d.files maps) first
    (λ n h. settling_reads job.name d.files c.files maps n b.settles among h) names)
    (subst (EachOf (PublishedAmong job.name d.files maps)) (sym w.holds.whole)
    (each-append (PublishedAmong job.name d.files maps) w.holds.turns w.holds.commits
    (each-map (StagedOver job.name c.files) (PublishedAmong job.name d.files maps) w.holds.turns
    (λ n h. staged_reads job.name d.files c.files maps n among h) w.holds.over)
    (each-map (PublishedFrom job.name maps) (PublishedAmong job.name d.files maps) w.holds.commits
    (λ n h name f published here. inr (h name f published here)) w.holds.gone.reads)))

-- ---- the trail

-- some groups were committed, one after the other
pub trail_of : (job : Job) (failing : List ℕ) (l : Loaded) (cut : Cut) (d c e : Disk) (s t : Supply)
    → IsJob job.name job → TellsCut job l cut s → Began job.name l d c
    → Went (WentAlong job s.held l.state cut.units failing) c e
    → TrailIs job failing d s e t
trail_of job failing l cut d c e s t right told b w =
    let go = w.holds.gone in
    let groups = sym (groups_are job l cut s failing told) ∙ go.whole in
    record {
      added = b.first ++ w.added;
      trail = w.trail ∙ ap (λ a. a ++ w.added) b.trail ∙ append_assoc d.trail b.first w.added;
      stands = w.stands ∙ ap (λ n. last_map n w.added) b.stands ∙ sym (last-append d.files b.first w.added);
      goes = subst (λ a. TrailOfRun job s.held failing d.files a)
          (append_assoc b.first w.holds.turns w.holds.commits ∙ ap (λ a. b.first ++ a) (sym w.holds.whole))
          (run_trail job s.held failing d.files c.files go.last l.state go.before go.rest go.maps b.first w.holds.turns
          w.holds.commits right.tells told.rising b.settles (stores_of job.name l d c b) go.done groups b.alike
          w.holds.over go.rises);
      reads = readers_of_run job s.held failing d.files c.files l.state go.before go.rest go.maps (b.first ++ w.added)
          right.tells told.rising b.settles (stores_of job.name l d c b) groups go.done.begins go.done.along
          (published_among job s.held l (groups_over job s.held cut.units failing) d c e b w b.first b.names);
    }

-- whatever the source is
pub published_of : (job : Job) (l : Loaded) (cut : Cut) (supply : Option Supply) (d c e : Disk)
    → CutFits (parts_of l.state) job.limits supply cut → Began job.name l d c
    → Went (FiledAlong job l.state cut.units) c e → PublishesGiven job d e
published_of job l cut supply d c e fits b w =
    let go = w.holds.went.gone in
    let groups = groups_by job cut.units w.holds.results in
    let over : Went (WentOver job w.holds.given l.state groups) c e =
    record { added = w.added; trail = w.trail; stands = w.stands; holds = w.holds.went } in
    record {
      added = b.first ++ w.added;
      trail = w.trail ∙ ap (λ a. a ++ w.added) b.trail ∙ append_assoc d.trail b.first w.added;
      stands = w.stands ∙ ap (λ n. last_map n w.added) b.stands ∙ sym (last-append d.files b.first w.added);
      units = cut.units;
      results = w.holds.results;
      fit = λ o entry. subst (λ parts. UnitsFit parts cut.units)
          (sym (ap (λ q. (state_or_empty job q).parts) (found_is_one job.name l d c o b entry)
          ∙ parts_same job l.state)) fits.are.fit;
      given = w.holds.given;
      judged = w.holds.judged;
      publishes = λ settled settles. publishes_only job w.holds.given d.files settled l.state groups go.before go.rest
          go.maps (b.first ++ w.added) go.whole
          (subst (λ m. BeginsWith m go.maps) (to_one job.name d.files c.files settled b.settles settles) go.done.begins)
          go.done.along
          (published_among job w.holds.given l groups d c e b over b.first b.names);
    }

-- ---- what is left

-- all groups were committed
pub left_of : (job : Job) (failing : List ℕ) (l : Loaded) (cut : Cut) (out : Outcome) (d c e : Disk) (s t : Supply)
    → TellsCut job l cut s → Began job.name l d c → out.units ≡ cut.units
    → verdicts_in out.results ≡ verdicts_of job s.held cut.units failing
    → Went (WentToEnd job s.held l.state cut.units failing) c e → RunIsLeft job failing l.state out d s e t
unfolding entry_of
left_of job failing l cut out d c e s t told b units verdicts w =
    let go = w.holds.gone in
    let done = subst (λ n. GroupsDone job s.held l.state c.files (run_groups job s.held failing l.state) n go.maps)
    (sym w.stands)
    (subst (λ g. GroupsDone job s.held l.state c.files g (last_map c.files w.added) go.maps)
    (groups_are job l cut s failing told) go.done) in
    let both = all_done job s.held failing c.files e.files l.state go.maps done in
    record {
      entry = entry_of job.name l d c b;
      settled = done.closed;
      ran = record {
        cut = units ∙ units_are job l cut s told;
        judged = verdicts ∙ ap (λ u. verdicts_of job s.held u failing) (sym units);
        left = both.0;
        change = both.1;
      };
      lasting = lasting_along job s.held l.state (run_groups job s.held failing l.state) go.maps c.files e.files
          done.along done.begins done.ends;
    }

-- whatever the source is
pub filed_of : (job : Job) (l : Loaded) (out : Outcome) (d c e : Disk) → Began job.name l d c
    → Went (FiledToEnd job l.state out.units out.results) c e → RunIsFiled job l.state out d e
unfolding entry_of
filed_of job l out d c e b w =
    let go = w.holds.went.gone in
    let groups = groups_by job out.units out.results in
    let done = subst (λ n. GroupsDone job w.holds.given l.state c.files groups n go.maps) (sym w.stands) go.done in
    record {
      entry = entry_of job.name l d c b;
      settled = done.closed;
      given = w.holds.given;
      judged = w.holds.judged;
      left = done.left;
      change = λ k keeps. done.keeps k keeps;
      lasting = lasting_along job w.holds.given l.state groups go.maps c.files e.files done.along done.begins done.ends;
    }
