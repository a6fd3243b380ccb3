-- What is published in the maps of a run, whatever the source is: what was found, and what bytes make that were given.
use Rattle.std.proofs.Common.{◌≡◌, ◌⊎◌, inl, inr, ⊎_elim, ℕ, true, List, [], ◌∷◌, ◌++◌, refl, sym, ap, subst, ◌∙◌}
use Rattle.std.proofs.Common.{Some, None, option_map}
use Rattle.std.specs.declared.option.Option.{Option}
use Rattle.std.specs.List.{Contains, flat_map}
use Rattle.std.proofs.lemmas.List.Elements.{Contains-append_left}
use Rattle.std.proofs.lemmas.Option.{same_Some}
use Rattle.gob_bytes.specs.Paths.{is_published}
use Rattle.gob_device.specs.Disk.{EachOf, File, Files, clean, contents_at, contents_of}
use Rattle.gob_device.specs.Supply.{Held}
use Rattle.gob_device.proofs.Trail.{each-map}
use Rattle.gob_meaning.specs.Job.{Job}
use Rattle.gob_ledger.specs.Expected.{IsPublished}
use Rattle.gob_ledger.specs.Next.{Judged}
use Rattle.gob_ledger.specs.State.{State}
use Rattle.gob_ledger.proofs.Members.{first_in, flat_map_in, in_cases, in_flat_map, later_in, none_in}
use Rattle.gob_history.specs.Laws.{BeginsWith, Lasting, LeftAlong}
use Rattle.gob_history.specs.Runs.{GroupsLeft, after_group, done_in}
use Rattle.gob_run.specs.Answers.{PublishesOnly}
use Rattle.gob_run.proofs.Reading.{PublishedAmong}

-- each published file is one of the settled map's, or clean, of a content that stood there or that these units make
abbrev OnlyFrom : Job → Held → List Judged → Files → Files → Type 0
OnlyFrom job given done settled m = (name : List ℕ) (f : File) → is_published job.name name ≡ true → m name ≡ Some f
    → (settled name ≡ Some f) ⊎ ((content : List ℕ) × (f ≡ clean content)
    × ((contents_at settled name ≡ Some content) ⊎ IsPublished job.name job.plan given done name content))

-- ---- one commit

-- the units that groups commit are among those that more groups do
done_among : (job : Job) (some all : List (List Judged)) → ((g : List Judged) → Contains some g → Contains all g)
    → (j : Judged) → Contains (flat_map (done_in job) some) j → Contains (flat_map (done_in job) all) j
done_among job some all among j there =
    let found = in_flat_map (done_in job) some j there in
    flat_map_in (done_in job) all found.0 j (among found.0 found.1) found.2

published_more : (job : Job) (given : Held) (some all : List Judged) (name content : List ℕ)
    → ((j : Judged) → Contains some j → Contains all j) → IsPublished job.name job.plan given some name content
    → IsPublished job.name job.plan given all name content
published_more job given some all name content among p = record {
  unit = p.unit;
  of_units = among p.unit p.of_units;
  path = p.path;
  made = p.made;
  called = p.called;
}

file_with : (o : Option File) (content : List ℕ) → option_map contents_of o ≡ Some content
    → (f : File) × (o ≡ Some f) × (contents_of f ≡ content)
file_with None content is = absurd (let no : None ≡ Some content = is in cc)
file_with (Some f) content is = (f, refl, same_Some (contents_of f) content is)

commit_only : (job : Job) (given : Held) (done : List Judged) (settled m n : Files) (o : Option State)
    (g : List Judged) → ((j : Judged) → Contains (flat_map (done_in job) (g ∷ [])) j → Contains done j)
    → GroupsLeft job given m o (g ∷ []) n → Lasting m n → OnlyFrom job given done settled m
    → OnlyFrom job given done settled n
commit_only job given done settled m n o g among left lasting only name f published here =
    ⊎_elim
    (λ same. only name f published (sym same ∙ here))
    (λ changed. ⊎_elim
    (λ gone. absurd (let no : None ≡ Some f = sym gone ∙ here in cc))
    (λ new. inr (new.0, same_Some f (clean new.0) (sym here ∙ new.1), from new.0 new.1))
    changed)
    (lasting name)
  where
    was : (content : List ℕ) (e : File) → contents_of e ≡ content
        → (settled name ≡ Some e) ⊎ ((c : List ℕ) × (e ≡ clean c)
        × ((contents_at settled name ≡ Some c) ⊎ IsPublished job.name job.plan given done name c))
        → (contents_at settled name ≡ Some content) ⊎ IsPublished job.name job.plan given done name content
    was content e holds (inl there) = inl (ap (option_map contents_of) there ∙ ap (λ c. Some c) holds)
    was content e holds (inr made) =
        let same : made.0 ≡ content = sym (ap contents_of made.1) ∙ holds in
        subst (λ c. (contents_at settled name ≡ Some c) ⊎ IsPublished job.name job.plan given done name c) same made.2

    from : (content : List ℕ) → n name ≡ Some (clean content)
        → (contents_at settled name ≡ Some content) ⊎ IsPublished job.name job.plan given done name content
    from content is = ⊎_elim
        (λ made. inr (published_more job given (flat_map (done_in job) (g ∷ [])) done name content among made))
        (λ stood.
        let e = file_with (m name) content stood.0 in was content e.0 e.2 (only name e.0 published e.1))
        ((left.published name content published).0 (ap (option_map contents_of) is))

-- ---- all commits

commits_only : (job : Job) (given : Held) (all : List (List Judged)) (settled : Files) (o : Option State)
    (groups : List (List Judged)) (m : Files) (ms : List Files)
    → ((g : List Judged) → Contains groups g → Contains all g) → LeftAlong job given o groups (m ∷ ms)
    → OnlyFrom job given (flat_map (done_in job) all) settled m → (k : Files) → Contains (m ∷ ms) k
    → OnlyFrom job given (flat_map (done_in job) all) settled k
commits_only job given all settled o [] m [] among along only k there = ⊎_elim
    (λ same. subst (OnlyFrom job given (flat_map (done_in job) all) settled) same only)
    (λ none. none_in k none)
    (in_cases m [] k there)
commits_only job given all settled o [] m (n ∷ ns) among along only k there = absurd along
commits_only job given all settled o (g ∷ gs) m [] among along only k there = absurd along
commits_only job given all settled o (g ∷ gs) m (n ∷ ns) among along only k there = ⊎_elim
    (λ same. subst (OnlyFrom job given (flat_map (done_in job) all) settled) same only)
    (λ later. commits_only job given all settled (after_group job o g) gs n ns (λ x in_rest. among x (later_in g gs x
    in_rest)) along.2 next k later)
    (in_cases m (n ∷ ns) k there)
  where
    first_group : (x : List Judged) → Contains (g ∷ []) x → Contains all x
    first_group x there = ⊎_elim
        (λ same. among x (first_in g gs x same))
        (λ none. none_in x none)
        (in_cases g [] x there)

    next : OnlyFrom job given (flat_map (done_in job) all) settled n
    next = commit_only job given (flat_map (done_in job) all) settled m n o g
        (done_among job (g ∷ []) all first_group) along.0 along.1 only

-- the files that these maps publish, over the first of them
pub publishes_only : (job : Job) (given : Held) (found settled : Files) (o : Option State)
    (all before rest : List (List Judged)) (maps added : List Files) → all ≡ before ++ rest
    → BeginsWith settled maps → LeftAlong job given o before maps
    → EachOf (PublishedAmong job.name found maps) added
    → EachOf (PublishesOnly job given (flat_map (done_in job) all) found settled) added
publishes_only job given found settled o all before rest [] added whole begins along each = absurd begins
publishes_only job given found settled o all before rest (m ∷ ms) added whole begins along each =
    each-map (PublishedAmong job.name found (m ∷ ms))
    (PublishesOnly job given (flat_map (done_in job) all) found settled) added
    (λ n among name f published here. ⊎_elim
    (λ was. inl was)
    (λ one. ⊎_elim (λ same. inr (inl same)) (λ made. inr (inr made))
    (commits_only job given all settled o before m ms among_all along first one.0 one.1 name f published one.2))
    (among name f published here)) each
  where
    first : OnlyFrom job given (flat_map (done_in job) all) settled m
    first name f published here = inl (ap (λ (k : Files). k name) begins ∙ here)

    among_all : (g : List Judged) → Contains before g → Contains all g
    among_all g there = subst (λ gs. Contains gs g) (sym whole) (Contains-append_left before rest g there)
