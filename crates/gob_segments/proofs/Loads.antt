-- What is known of a map whose changes were followed by their names.
use Rattle.std.proofs.Common.{◌≡◌, ◌≢◌, ⊎_elim, ℕ, suc, ◌+◌, ◌^◌, ◌<◌, Bool, true, false, List, [], ◌∷◌, ◌++◌, length}
use Rattle.std.proofs.Common.{refl, sym, ap, subst, ◌∙◌, Some, None, option_map, is_some, slice_get, get_or, take, drop}
use Rattle.std.proofs.Common.{add-one, ◌≤◌, IfSome, IfOk, IfErr, inl, inr, arith}
use Rattle.std.specs.declared.cmp.Ordering.TheVariants.{Less}
use Rattle.std.specs.declared.option.Option.{Option}
use Rattle.std.specs.declared.result.Result.{Result}
use Rattle.std.specs.declared.result.Result.TheVariants.{Ok, Err}
use Rattle.std.specs.List.{Contains}
use Rattle.std.proofs.lemmas.List.{take_all, take-append-drop}
use Rattle.std.proofs.Math.Seq.{drop-cons, take-suc}
use Rattle.gob_bytes.proofs.Tables.{rising_tail}
use Rattle.gob_bytes.proofs.Options.{if_both, if_two, if_three}
use Rattle.gob_bytes.specs.Paths.{begins_with, delta_folder, delta_name, state_name}
use Rattle.gob_bytes.specs.Tables.{name_cmp, IsInByteOrder}
use Rattle.gob_device.specs.Names.{IsPathname}
use Rattle.gob_device.specs.Disk.{Disk, File, Files, IsListing, contents_at, contents_of}
use Rattle.gob_ledger.specs.State.{State}
use Rattle.gob_ledger.specs.Spelling.{Proper, Version, version_number}
use Rattle.gob_ledger.specs.Delta.{EachLeads, Kept, KeepsAs, LeadOn, NoChange, ReadsAsChange, StateDamaged}
use Rattle.gob_ledger.specs.Delta.{ReadsAsNone, base, baseless, change, delta_at, last_state}
use Rattle.gob_ledger.proofs.Deciding.{is_member, same_text}
use Rattle.gob_ledger.proofs.DeltaNames.{name_above, not_itself_less}
use Rattle.gob_ledger.proofs.Members.{none_in, first_in, later_in, in_cases}
use Rattle.gob_ledger.proofs.OneDamage.{damaged_keeps_nothing, one_blamed}
use Rattle.gob_ledger.proofs.OneState.{first_change, other_change}
use Rattle.gob_ledger.proofs.KeptOrDamaged.{no_file}
use Rattle.gob_segments.specs.Loading.{BlamesDamage, BlamesNext, BlamesSome, IsBase, IsKept, IsNext, LedTo}
use Rattle.gob_segments.specs.Loading.{LoadDamageDue, LoadedFits, RoseIfLoadFailed, StopsAt, TellsNext}
use Rattle.gob_device.proofs.Causes.{rose_after}
use Rattle.gob_segments.proofs.Named.{change_named}
use Rattle.gob_segments.specs.declared.change.Loaded.{Loaded}
use Rattle.gob_segments.specs.declared.faults.LoadFault.{LoadFault}
use Rattle.gob_segments.specs.declared.faults.LoadFault.TheVariants as load_fault

-- ---- the states of changes that lead on

-- these names are those of the changes to these states, the last of which is that one
record Led (job : List ℕ) (m : Files) (v : Version) (s : State) (names : List (List ℕ)) (t : State) : Type 0 where
  later : List State
  each : EachLeads v s later
  last : last_state s later ≡ t
  count : length later ≡ length names
  texts : (name : List ℕ) → Contains names name → contents_at m name ≡ delta_at job v s later name
  others : (name : List ℕ) → (Contains names name → ⊥) → delta_at job v s later name ≡ None

led_on : (job : List ℕ) (m : Files) (v : Version) (s : State) (names : List (List ℕ)) (t : State)
    → IsInByteOrder names → LeadOn job m v s names t → Led job m v s names t
led_on job m v s [] t order same = record {
  later = [];
  each = tt;
  last = same;
  count = refl;
  texts = λ name h. none_in name h;
  others = λ name out. refl;
}
led_on job m v s (name ∷ names) t order (u, bytes, named, holds, reads, rest) =
    let a = led_on job m v u names t (rising_tail name names order) rest in
    record {
      later = u ∷ a.later;
      each = (reads.leads, a.each);
      last = a.last;
      count = ap suc a.count;
      texts = λ n h. ⊎_elim
          (λ e. subst (λ x. contents_at m x ≡ delta_at job v s (u ∷ a.later) x) e
          (holds ∙ ap Some reads.spelled
          ∙ sym (ap (delta_at job v s (u ∷ a.later)) named ∙ first_change job v s u a.later)))
          (λ k. a.texts n k
          ∙ sym (other_change job v s u a.later n
          (λ e. not_itself_less n (subst (λ x. name_cmp x n ≡ Less) (named ∙ sym e)
          (name_above name names n order k)))))
          (in_cases name names n h);
      others = λ n out.
          other_change job v s u a.later n (λ e. out (first_in name names n (named ∙ sym e)))
          ∙ a.others n (λ k. out (later_in name names n k));
    }

-- ---- what is kept

pub nothing_kept : (job : List ℕ) (m : Files) (names : List (List ℕ)) (l : Loaded)
    → contents_at m (state_name job) ≡ None
    → IsListing (delta_folder job) m names → names ≡ [] → l.state ≡ None → l.deltas ≡ 0 → l.version ≡ 2
    → IsKept job m l
nothing_kept job m names l gone listing empty state deltas version = (
  None,
  record {
    base = gone;
    deltas = λ name below. no_file job m [] name (subst (IsListing (delta_folder job) m) empty listing) below
        (λ h. none_in name h);
  },
  record { state = state; deltas = deltas; version = version },
)

pub all_kept : (job : List ℕ) (m : Files) (v : Version) (s t : State) (names : List (List ℕ)) (l : Loaded)
    → IsBase job m v s → IsListing (delta_folder job) m names → LeadOn job m v s names t → l.state ≡ Some t
    → l.deltas ≡ length names → l.version ≡ version_number v → IsKept job m l
all_kept job m v s t names l (bytes, holds, reads) listing leads state deltas version =
    let a = led_on job m v s names t listing.rising leads in (
      Some (record { version = v; base = s; later = a.later }),
      (
        record {
          base = holds ∙ ap Some reads.spelled;
          deltas = λ name below. ⊎_elim
              (λ h. a.texts name h)
              (λ out. no_file job m names name listing below out ∙ sym (a.others name out))
              (is_member same_text names name);
        },
        record { base = reads.proper; fits = reads.fits; later = a.each },
      ),
      record { state = state ∙ ap Some (sym a.last); deltas = deltas ∙ sym a.count; version = version },
    )

-- ---- damage

pub base_damaged : (job name blamed bytes : List ℕ) (m : Files) → name ≡ state_name job → blamed ≡ name
    → Some bytes ≡ contents_at m name → ReadsAsNone bytes → StateDamaged job m blamed
base_damaged job name blamed bytes m is told holds none =
    subst (StateDamaged job m) (sym (told ∙ is))
    (base bytes (sym (holds ∙ ap (contents_at m) is)) none)

pub baseless_damaged : (job blamed name : List ℕ) (names rest : List (List ℕ)) (m : Files)
    → contents_at m (state_name job) ≡ None → IsListing (delta_folder job) m names → names ≡ name ∷ rest
    → blamed ≡ name → StateDamaged job m blamed
baseless_damaged job blamed name names rest m gone listing whole told =
    subst (StateDamaged job m) (sym told)
    (baseless name rest gone (subst (IsListing (delta_folder job) m) whole listing))

pub change_damaged : (job name : List ℕ) (names : List (List ℕ)) (m : Files) (v : Version) (s : State)
    → IsBase job m v s → IsListing (delta_folder job) m names → StopsAt job m v s names name → StateDamaged job m name
change_damaged job name names m v s (bytes, holds, reads) listing a =
    change v bytes s a.last a.before a.after name holds reads
    (subst (IsListing (delta_folder job) m) a.whole listing) a.leads a.stops

-- damage that is there is told, by the one name that is to blame
blamed_due : {T : Type 0} (job name : List ℕ) (d : Disk) (f : LoadFault) → BlamesDamage job (Some d) f
    → StateDamaged job d.files name → LoadDamageDue {T = T} name (Err f)
blamed_due job name d load_fault.Failed blames damaged = inr (inl refl)
blamed_due job name d load_fault.Memory blames damaged = inr (inr refl)
blamed_due job name d (load_fault.Damaged blamed) blames damaged =
    inl (ap (λ n. Err (load_fault.Damaged n)) (one_blamed job d.files blamed name blames damaged))

pub due_err : {T : Type 0} (job : List ℕ) (o : Option Disk) (r : Result T LoadFault) (f : LoadFault) → r ≡ Err f
    → BlamesDamage job o f → IfSome o (λ d. (name : List ℕ) → StateDamaged job d.files name → LoadDamageDue name r)
due_err job None r f is blames = tt
due_err {T} job (Some d) r f is blames =
    λ name damaged. subst (LoadDamageDue name) (sym is) (blamed_due {T = T} job name d f blames damaged)

pub due_ok : (job : List ℕ) (o : Option Disk) (l : Loaded) → IfSome o (λ d. IsKept job d.files l)
    → IfSome o (λ d. (name : List ℕ) → StateDamaged job d.files name → LoadDamageDue name (Ok l))
due_ok job None l kept = tt
due_ok job (Some d) l kept = λ name damaged. absurd (damaged_keeps_nothing job d.files name damaged kept.0 kept.1)

-- ---- one name more

pub one_led : (job : List ℕ) (m : Files) (v : Version) (s t u : State) (names : List (List ℕ)) (name : List ℕ)
    → LeadOn job m v s names t → IsNext job m v t name u → LeadOn job m v s (names ++ name ∷ []) u
one_led job m v s t u [] name same (bytes, named, holds, reads) =
    (u, bytes, named, holds, subst (λ w. ReadsAsChange v w bytes u) (sym same) reads, refl)
one_led job m v s t u (n ∷ names) name (w, bytes, named, holds, reads, rest) next =
    (w, bytes, named, holds, reads, one_led job m v w t u names name rest next)

-- ---- what is listed

first_listed : (names : List (List ℕ)) (name : List ℕ) → Some name ≡ slice_get names 0
    → (rest : List (List ℕ)) × (names ≡ name ∷ rest)
first_listed [] name e = absurd (let never : Some name ≡ None = e in cc)
first_listed (n ∷ names) name e = (names, let same : name ≡ n = cc in ap (λ (x : List ℕ). x ∷ names) (sym same))

none_listed : (names : List (List ℕ)) → None ≡ slice_get names 0 → names ≡ []
none_listed [] e = refl
none_listed (n ∷ names) e = absurd (let never : None ≡ Some n = e in cc)

pub listed_damaged : (job folder blamed name : List ℕ) (names slice : List (List ℕ)) (o : Option (List ℕ))
    (d : Option Disk)
    → folder ≡ delta_folder job → slice ≡ names → o ≡ slice_get slice 0 → o ≡ Some name → blamed ≡ name
    → IfSome d (λ x. contents_at x.files (state_name job) ≡ None) → IfSome d (λ x. IsListing folder x.files names)
    → IfSome d (λ x. StateDamaged job x.files blamed)
listed_damaged job folder blamed name names slice o d place same first is told gone listing =
    let r = first_listed names name (sym is ∙ first ∙ ap (λ ns. slice_get ns 0) same) in
    if_two d (λ x g l. baseless_damaged job blamed name names r.0 x.files g
    (subst (λ f. IsListing f x.files names) place l) r.1 told) gone listing

pub none_kept : (job folder : List ℕ) (names slice : List (List ℕ)) (o : Option (List ℕ)) (d : Option Disk) (l : Loaded)
    → folder ≡ delta_folder job → slice ≡ names → o ≡ slice_get slice 0 → o ≡ None
    → IfSome d (λ x. contents_at x.files (state_name job) ≡ None) → IfSome d (λ x. IsListing folder x.files names)
    → l.state ≡ None → l.deltas ≡ 0 → l.version ≡ 2 → IfSome d (λ x. IsKept job x.files l)
none_kept job folder names slice o d l place same first is gone listing state deltas version =
    let empty = none_listed names (sym is ∙ first ∙ ap (λ ns. slice_get ns 0) same) in
    if_two d (λ x g q. nothing_kept job x.files names l g
    (subst (λ f. IsListing f x.files names) place q) empty state deltas version) gone listing

-- ---- names

pub next_named : (job name : List ℕ) (run : ℕ) (answer : Bool) → IsPathname job → TellsNext job run name answer
    → answer ≡ true → IsPathname name
next_named job name run true named tells e = subst IsPathname (sym tells) (change_named job (run + 1) named)
next_named job name run false named tells e = absurd (let never : false ≡ true = e in cc)

pub base_told : (job name blamed bytes given : List ℕ) (d : Option Disk) → name ≡ state_name job → blamed ≡ name
    → given ≡ bytes → IfSome d (λ x. Some bytes ≡ contents_at x.files name) → ReadsAsNone given
    → IfSome d (λ x. StateDamaged job x.files blamed)
base_told job name blamed bytes given d is told same holds none =
    if_both d (λ x e. base_damaged job name blamed bytes x.files is told e (subst ReadsAsNone same none)) holds

-- ---- going on by names

pub led_none : (s : State) → Proper s → LedTo s 0 s
led_none s proper = record { proper = proper; run = omega arith }

pub led_more : (s t u : State) (i : ℕ) → LedTo s i t → LedTo t 1 u → LedTo s (i + 1) u
led_more s t u i a b = record { proper = b.proper; run = let x = a.run in let y = b.run in omega (arith, x, y) }

front_more : (names : List (List ℕ)) (i : ℕ) (name : List ℕ) → i < length names → name ≡ get_or names i name
    → take (i + 1) names ≡ take i names ++ name ∷ []
front_more names i name below is =
    ap (λ n. take n names) (add-one i) ∙ take-suc names i name below
    ∙ ap (λ (n : List ℕ). take i names ++ n ∷ []) (sym is)

pub leads_more : (job : List ℕ) (v : Version) (s t u : State) (names : List (List ℕ)) (i : ℕ) (name item : List ℕ)
    (d e : Option Disk) → e ≡ d → i < length names → item ≡ get_or names i item → name ≡ item
    → IfSome d (λ x. LeadOn job x.files v s (take i names) t) → IfSome e (λ x. IsNext job x.files v t name u)
    → IfSome d (λ x. LeadOn job x.files v s (take (i + 1) names) u)
leads_more job v s t u names i name item d e same below is level led next =
    if_two d (λ x a b. subst (λ ns. LeadOn job x.files v s ns u) (sym (front_more names i item below is))
    (one_led job x.files v s t u (take i names) item a (subst (λ n. IsNext job x.files v t n u) level b)))
    led (subst (λ o. IfSome o (λ x. IsNext job x.files v t name u)) same next)

pub leads_all : (job : List ℕ) (v : Version) (s t : State) (names : List (List ℕ)) (i : ℕ) (d : Option Disk)
    → length names ≤ i → IfSome d (λ x. LeadOn job x.files v s (take i names) t)
    → IfSome d (λ x. LeadOn job x.files v s names t)
leads_all job v s t names i d past led =
    subst (λ ns. IfSome d (λ x. LeadOn job x.files v s ns t)) (take_all i names past) led

-- where going on stops, the name is to blame
pub stops_next : (job : List ℕ) (v : Version) (s t : State) (names : List (List ℕ)) (i : ℕ) (name item : List ℕ)
    (d e : Option Disk) (f : LoadFault) → e ≡ d → i < length names → item ≡ get_or names i item → name ≡ item
    → IfSome d (λ x. LeadOn job x.files v s (take i names) t) → BlamesNext job v t name e f
    → BlamesSome job v s names d f
stops_next job v s t names i name item d e load_fault.Failed same below is level led blames = tt
stops_next job v s t names i name item d e load_fault.Memory same below is level led blames = tt
stops_next job v s t names i name item d e (load_fault.Damaged blamed) same below is level led blames =
    if_two d (λ x a b. record {
      before = take i names;
      after = drop (suc i) names;
      whole = sym (take-append-drop i names)
          ∙ ap (λ ns. take i names ++ ns) (drop-cons names i item below ∙ ap (λ (n : List ℕ). n ∷ drop (suc i) names)
          (sym is ∙ sym (blames.0 ∙ level)));
      last = t;
      leads = a;
      stops = subst (NoChange job x.files v t) (sym blames.0) b;
    }) led (subst (λ o. IfSome o (λ x. NoChange job x.files v t name)) same blames.1)

-- a count that rose rose since an earlier call too
pub rose_on : (first before now : ℕ) (f : LoadFault) → first ≤ before → RoseIfLoadFailed before now f
    → RoseIfLoadFailed first now f
rose_on first before now load_fault.Failed later rose = rose_after first before now later rose
rose_on first before now load_fault.Memory later rose = tt
rose_on first before now (load_fault.Damaged name) later rose = tt

-- ---- behind a state that is kept whole

pub changes_kept : (job folder : List ℕ) (v : Version) (s t : State) (names slice : List (List ℕ)) (l : Loaded)
    (d e : Option Disk) → folder ≡ delta_folder job → slice ≡ names → e ≡ d → IfSome d (λ x. IsBase job x.files v s)
    → IfSome d (λ x. IsListing folder x.files names) → IfSome e (λ x. LeadOn job x.files v s slice t)
    → l.state ≡ Some t → l.deltas ≡ length names → l.version ≡ version_number v
    → IfSome d (λ x. IsKept job x.files l)
changes_kept job folder v s t names slice l d e place same still whole listing leads state deltas version =
    if_three d (λ x b q a. all_kept job x.files v s t names l b (subst (λ f. IsListing f x.files names) place q)
    (subst (λ ns. LeadOn job x.files v s ns t) same a) state deltas version)
    whole listing (subst (λ o. IfSome o (λ x. LeadOn job x.files v s slice t)) still leads)

pub changes_damaged : (job folder : List ℕ) (v : Version) (s : State) (names slice : List (List ℕ)) (f : LoadFault)
    (d e : Option Disk) → folder ≡ delta_folder job → slice ≡ names → e ≡ d → IfSome d (λ x. IsBase job x.files v s)
    → IfSome d (λ x. IsListing folder x.files names) → BlamesSome job v s slice e f → BlamesDamage job d f
changes_damaged job folder v s names slice load_fault.Failed d e place same still whole listing blames = tt
changes_damaged job folder v s names slice load_fault.Memory d e place same still whole listing blames = tt
changes_damaged job folder v s names slice (load_fault.Damaged name) d e place same still whole listing blames =
    if_three d (λ x b q a. change_damaged job name names x.files v s b
    (subst (λ f. IsListing f x.files names) place q) (subst (λ ns. StopsAt job x.files v s ns name) same a))
    whole listing (subst (λ o. IfSome o (λ x. StopsAt job x.files v s slice name)) still blames)
