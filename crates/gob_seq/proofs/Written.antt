-- What the calls that write a file leave.
use Rattle.std.proofs.Common.{◌≡◌, ◌≢◌, ⊎_elim, ℕ, true, false, cond, List, [], refl, sym, ap, subst, ◌∙◌}
use Rattle.std.proofs.Common.{Some, None, option_map, IfSome, IsSome, is_some}
use Rattle.std.specs.declared.option.Option.{Option}
use Rattle.std.specs.declared.result.Result.{Result}
use Rattle.gob_bytes.specs.Paths.{begins_with}
use Rattle.gob_bytes.proofs.Tables.{two_names, name_itself}
use Rattle.gob_device.specs.Disk.{Along, Changes, Disk, File, Files, OnlyAt, Torn, Whole, after_append, after_change}
use Rattle.gob_device.specs.Disk.{after_create, after_rename, after_sync, clean, put, synced_file, with_more}
use Rattle.gob_device.proofs.Trail.{along_change, along_map}
use Rattle.gob_recovery.specs.Commits.{OnlyBelow}
use Rattle.gob_recovery.proofs.Commits.{below_renamed}

only_put : (m : Files) (name : List ℕ) (f : Option File) → OnlyAt name m (put m name f)
only_put m name f other apart = ap (λ b. cond b f (m other)) (two_names other name apart)

created_step : (name : List ℕ) (m : Files) → OnlyAt name m (after_create name m)
unfolding after_create
created_step name m = only_put m name (Some (clean []))

pub created_only : {T E : Type 0} (name : List ℕ) {old new : Option Disk} {result : Result T E}
    → Changes (after_create name) (Whole (after_create name)) old new result → Along (OnlyAt name) old new
created_only name c = along_change (OnlyAt name) (created_step name)
    (λ m n w. ⊎_elim
    (λ e other apart. ap (λ (f : Files). f other) e)
    (λ e other apart. ap (λ (f : Files). f other) e ∙ created_step name m other apart)
    w)
    c

appended_step : (name bytes : List ℕ) (m : Files) → OnlyAt name m (after_append name bytes m)
unfolding after_append
appended_step name bytes m = only_put m name (option_map (with_more bytes) (m name))

pub appended_only : {T E : Type 0} (name bytes : List ℕ) {old new : Option Disk} {result : Result T E}
    → Changes (after_append name bytes) (Torn name (after_append name bytes)) old new result
    → Along (OnlyAt name) old new
appended_only name bytes c = along_change (OnlyAt name) (appended_step name bytes) (λ m n t. t.others) c

synced_step : (name : List ℕ) (m : Files) → OnlyAt name m (after_sync name m)
unfolding after_sync
synced_step name m = only_put m name (option_map synced_file (m name))

pub synced_only : {T E : Type 0} (name : List ℕ) {old new : Option Disk} {result : Result T E}
    → Changes (after_sync name) (Torn name (after_sync name)) old new result → Along (OnlyAt name) old new
synced_only name c = along_change (OnlyAt name) (synced_step name) (λ m n t. t.others) c

-- ---- that the file is there

is_there : (o : Option File) (f : File) → o ≡ Some f → IsSome o
is_there o f e = ap (λ x. is_some x) e

pub there_created : (o : Option Disk) (name : List ℕ)
    → IfSome (option_map (after_change (after_create name)) o) (λ d. IsSome (d.files name))
unfolding after_create
there_created None name = tt
there_created (Some d) name =
    is_there _ (clean []) (ap (λ b. cond b (Some (clean [])) (d.files name)) (name_itself name))

there_more : (bytes : List ℕ) (o : Option File) → IsSome o → IsSome (option_map (with_more bytes) o)
there_more bytes None e = e
there_more bytes (Some f) e = refl

pub there_appended : (o : Option Disk) (name bytes : List ℕ) → IfSome o (λ d. IsSome (d.files name))
    → IfSome (option_map (after_change (after_append name bytes)) o) (λ d. IsSome (d.files name))
unfolding after_append
there_appended None name bytes h = tt
there_appended (Some d) name bytes h = subst (λ (o : Option File). IsSome o)
    (sym (ap (λ b. cond b (option_map (with_more bytes) (d.files name)) (d.files name)) (name_itself name)))
    (there_more bytes (d.files name) h)

pub there_synced : (o : Option Disk) (name : List ℕ) → IfSome o (λ d. IsSome (d.files name))
    → IfSome (option_map (after_change (after_sync name)) o) (λ d. IsSome (d.files name))
unfolding after_sync
there_synced None name h = tt
there_synced (Some d) name h = subst (λ (o : Option File). IsSome o)
    (sym (ap (λ b. cond b (option_map synced_file (d.files name)) (d.files name)) (name_itself name)))
    (more (d.files name) h)
  where
    more : (o : Option File) → IsSome o → IsSome (option_map synced_file o)
    more None e = e
    more (Some f) e = refl

-- ---- below a folder

outside_apart : (folder name other : List ℕ) → begins_with folder name ≡ true → begins_with folder other ≡ false
    → other ≢ name
outside_apart folder name other inside outside is =
    absurd (let no : true ≡ false = sym inside ∙ (ap (begins_with folder) (sym is) ∙ outside) in cc)

pub only_below : (folder name : List ℕ) {old new : Option Disk} → begins_with folder name ≡ true
    → Along (OnlyAt name) old new
    → Along (OnlyBelow folder) old new
only_below folder name inside a = along_map (OnlyAt name) (OnlyBelow folder)
    (λ m n only other outside. only other (outside_apart folder name other inside outside)) a

pub renamed_below : {T E : Type 0} (folder source target : List ℕ) {old new : Option Disk} {result : Result T E}
    → begins_with folder source ≡ true → begins_with folder target ≡ true
    → Changes (after_rename source target) (Whole (after_rename source target)) old new result
    → Along (OnlyBelow folder) old new
renamed_below folder source target s t c = along_change (OnlyBelow folder)
    (λ m. below_renamed folder source target m s t)
    (λ m n w. ⊎_elim
    (λ e name out. ap (λ (f : Files). f name) e)
    (λ e name out. ap (λ (f : Files). f name) e ∙ below_renamed folder source target m s t name out)
    w)
    c
