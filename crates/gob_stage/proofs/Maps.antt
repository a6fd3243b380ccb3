-- What appends and syncs make of one file, and that they leave every other file.
use Rattle.std.proofs.Common.{◌≡◌, ◌≢◌, ⊎_elim, ℕ, Bool, true, false, cond, List, [], ◌∷◌, ◌++◌, refl, sym, ap, subst}
use Rattle.std.proofs.Common.{◌∙◌, Some, None, option_map, is_some, IsSome, IfSome, OnOk}
use Rattle.std.specs.declared.option.Option.{Option}
use Rattle.std.specs.declared.result.Result.{Result}
use Rattle.std.specs.declared.result.Result.TheVariants.{Ok, Err}
use Rattle.std.specs.Str.{bytes_eq}
use Rattle.std.proofs.lemmas.Bool.{true≢false}
use Rattle.std.proofs.lemmas.List.{append-nil, append_assoc}
use Rattle.gob_bytes.specs.Paths.{begins_with}
use Rattle.gob_bytes.proofs.Tables.{name_itself, same_name, two_names}
use Rattle.gob_device.specs.Disk.{Along, Both, Changes, Disk, File, Files, OnlyAt, Torn, Whole}
use Rattle.gob_device.specs.Disk.{after_append, after_change, after_create, after_sync, clean, contents_at, contents_of}
use Rattle.gob_device.specs.Disk.{dirty, put, synced_file, with_more}
use Rattle.gob_device.proofs.Trail.{along_change, along_map, along_then}
use Rattle.gob_device.proofs.Only.{only_at_then}
use Rattle.gob_recovery.specs.Commits.{OnlyBelow}

pub ok_then : {T E : Type 0} (r : Result T E) (P Q : Type 0) → (P → Q) → OnOk r P → OnOk r Q
ok_then (Ok x) P Q f p = f p
ok_then (Err e) P Q f p = tt

pub ok_both : {T E : Type 0} (r : Result T E) (P Q R : Type 0) → (P → Q → R) → OnOk r P → OnOk r Q → OnOk r R
ok_both (Ok x) P Q R f p q = f p q
ok_both (Err e) P Q R f p q = tt

-- ---- one file

pub put_here : (m : Files) (name : List ℕ) (f : Option File) → put m name f name ≡ f
put_here m name f = ap (λ b. cond b f (m name)) (name_itself name)

pub put_other : (m : Files) (name other : List ℕ) (f : Option File) → other ≢ name → put m name f other ≡ m other
put_other m name other f apart = ap (λ b. cond b f (m other)) (two_names other name apart)

-- bytes at the end of what a file reads as
pub contents_more : (bytes : List ℕ) (f : File) → contents_of (with_more bytes f) ≡ contents_of f ++ bytes
contents_more [] f = sym (append-nil (contents_of f))
contents_more (b ∷ bytes) (clean kept) = refl
contents_more (b ∷ bytes) (dirty kept loose) = sym (append_assoc kept loose (b ∷ bytes))

pub appended_here : (name bytes : List ℕ) (m : Files) → after_append name bytes m name ≡ option_map (with_more bytes)
    (m name)
unfolding after_append
appended_here name bytes m = put_here m name (option_map (with_more bytes) (m name))

pub created_here : (name : List ℕ) (m : Files) → after_create name m name ≡ Some (clean [])
unfolding after_create
created_here name m = put_here m name (Some (clean []))

pub synced_here : (name : List ℕ) (m : Files) → after_sync name m name ≡ option_map synced_file (m name)
unfolding after_sync
synced_here name m = put_here m name (option_map synced_file (m name))

-- ---- every other file

pub created_other : (name : List ℕ) (m : Files) → OnlyAt name m (after_create name m)
unfolding after_create
created_other name m other apart = put_other m name other (Some (clean [])) apart

pub appended_other : (name bytes : List ℕ) (m : Files) → OnlyAt name m (after_append name bytes m)
unfolding after_append
appended_other name bytes m other apart = put_other m name other (option_map (with_more bytes) (m name)) apart

pub synced_other : (name : List ℕ) (m : Files) → OnlyAt name m (after_sync name m)
unfolding after_sync
synced_other name m other apart = put_other m name other (option_map synced_file (m name)) apart

whole_only : (name : List ℕ) (step : Files → Files) → ((m : Files) → OnlyAt name m (step m)) → (m n : Files)
    → Whole step m n → OnlyAt name m n
whole_only name step only m n w = ⊎_elim
    (λ e other apart. ap (λ (f : Files). f other) e)
    (λ e other apart. ap (λ (f : Files). f other) e ∙ only m other apart) w

pub created_only : {T E : Type 0} (name : List ℕ) {old new : Option Disk} {result : Result T E}
    → Changes (after_create name) (Whole (after_create name)) old new result → Along (OnlyAt name) old new
created_only name c = along_change (OnlyAt name) (created_other name)
    (whole_only name (after_create name) (created_other name)) c

pub appended_only : {T E : Type 0} (name bytes : List ℕ) {old new : Option Disk} {result : Result T E}
    → Changes (after_append name bytes) (Torn name (after_append name bytes)) old new result
    → Along (OnlyAt name) old new
appended_only name bytes c = along_change (OnlyAt name) (appended_other name bytes) (λ m n t. t.others) c

pub synced_only : {T E : Type 0} (name : List ℕ) {old new : Option Disk} {result : Result T E}
    → Changes (after_sync name) (Torn name (after_sync name)) old new result → Along (OnlyAt name) old new
synced_only name c = along_change (OnlyAt name) (synced_other name) (λ m n t. t.others) c

-- a name in the folder isn't one outside
no_below : (folder x y : List ℕ) → begins_with folder x ≡ false → begins_with folder y ≡ true → x ≢ y
no_below folder x y out within e = true≢false (sym within ∙ (ap (begins_with folder) (sym e) ∙ out))

pub below_at : (folder name : List ℕ) {old new : Option Disk} → begins_with folder name ≡ true
    → Along (OnlyAt name) old new → Along (OnlyBelow folder) old new
below_at folder name within a =
    along_map (OnlyAt name) (OnlyBelow folder) (λ m n only other out.
    only other (no_below folder other name out within)) a

-- ---- what is there

pub there_mapped : (change : File → File) (o : Option File) → IsSome o → IsSome (option_map change o)
there_mapped change None e = e
there_mapped change (Some f) e = refl

pub by_name : (name q : List ℕ) (P : Type 0) → (q ≡ name → P) → (q ≢ name → P) → P
by_name name q P same apart = cases (bytes_eq q name) refl
  where
    cases : (b : Bool) → bytes_eq q name ≡ b → P
    cases true e = same (same_name q name e)
    cases false e = apart (λ is. let yes : bytes_eq q q ≡ true = name_itself q in
        let no : bytes_eq q q ≡ false = subst (λ n. bytes_eq q n ≡ false) (sym is) e in true≢false (sym yes ∙ no))

pub there_synced : (name q : List ℕ) (m : Files) → IsSome (m q) → IsSome (after_sync name m q)
there_synced name q m there = by_name name q (IsSome (after_sync name m q))
    (λ same. subst (λ (n : List ℕ). IsSome (after_sync name m n)) (sym same)
    (subst (λ (o : Option File). IsSome o) (sym (synced_here name m))
    (there_mapped synced_file (m name) (subst (λ n. IsSome (m n)) same there))))
    (λ apart. subst (λ (o : Option File). IsSome o) (sym (synced_other name m q apart)) there)

contents_of_synced : (o : Option File) → option_map contents_of (option_map synced_file o) ≡ option_map contents_of o
contents_of_synced None = refl
contents_of_synced (Some f) = refl

-- syncing changes nothing of what a file reads as
pub contents_synced : (name q : List ℕ) (m : Files) → contents_at (after_sync name m) q ≡ contents_at m q
contents_synced name q m = by_name name q (contents_at (after_sync name m) q ≡ contents_at m q)
    (λ same. ap (contents_at (after_sync name m)) same
    ∙ (ap (option_map contents_of) (synced_here name m) ∙ (contents_of_synced (m name)
    ∙ ap (contents_at m) (sym same))))
    (λ apart. ap (option_map contents_of) (synced_other name m q apart))

-- a clean file stays clean
pub clean_synced : (name q bytes : List ℕ) (m : Files) → m q ≡ Some (clean bytes)
    → after_sync name m q ≡ Some (clean bytes)
clean_synced name q bytes m is = by_name name q (after_sync name m q ≡ Some (clean bytes))
    (λ same. ap (after_sync name m) same ∙ (synced_here name m ∙ ap (option_map synced_file) (ap m (sym same) ∙ is)))
    (λ apart. synced_other name m q apart ∙ is)

-- ---- calls that tell or don't

-- what holds of a device's map gives what else holds of it
pub told_map : (P Q : Disk → Type 0) → ((d : Disk) → P d → Q d) → (o : Option Disk) → IfSome o P → IfSome o Q
told_map P Q weaker None p = tt
told_map P Q weaker (Some d) p = weaker d p

pub there_created : (name : List ℕ) (old new : Option Disk) → new ≡ option_map (after_change (after_create name)) old
    → IfSome new (λ d. IsSome (d.files name))
there_created name old new is = subst (λ o. IfSome o (λ d. IsSome (d.files name))) (sym is) (told old)
  where
    some_made : (o : Option File) → o ≡ Some (clean []) → IsSome o
    some_made o e = ap (λ x. is_some x) e

    told : (o : Option Disk) → IfSome (option_map (after_change (after_create name)) o) (λ d. IsSome (d.files name))
    told None = tt
    told (Some d) = some_made (after_create name d.files name) (created_here name d.files)

-- a file is made, and bytes are appended to it, whatever the calls answer
pub made_only : (name : List ℕ) {old between new : Option Disk} → Along (OnlyAt name) old between
    → Along (OnlyAt name) between new → Along (OnlyAt name) old new
made_only name a b = along_then (OnlyAt name) (only_at_then name) a b
