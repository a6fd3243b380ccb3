-- What the definitions come to: counts of failures, a file from call to call, what a crash leaves of it, pulls and
-- looks.
use Rattle.std.proofs.Common.{◌≡◌, ℕ, ◌-◌, ◌^◌, true, false, List, [], ◌∷◌, None, Some, refl, arith}
use Rattle.std.specs.Prelude.{codes}
use Rattle.gob_device.specs.Causes.{Rose, RoseBy, one_more}
use Rattle.gob_device.specs.Disk.{File, FileImage, Files, clean, contents_at, dirty, last_map, no_files, put}
use Rattle.gob_device.specs.Disk.{after_append, after_create, after_remove, after_rename, after_sync}
use Rattle.gob_device.specs.Names.{is_pathname}
use Rattle.gob_device.specs.Output.{with_write}
use Rattle.gob_device.specs.Supply.{Held, bytes_from, listing_of, seen_by_look}

-- ---- counts

pub counts : (one_more 0 ≡ 1) × (one_more (2 ^ 64 - 2) ≡ 2 ^ 64 - 1) × (one_more (2 ^ 64 - 1) ≡ 2 ^ 64 - 1)
counts = (refl, refl, refl)

-- the last failure that a count has room for is counted, and one more leaves it
pub rises : RoseBy 2 3 5 × (RoseBy 2 3 4 → ⊥) × Rose 3 4 × (Rose 3 3 → ⊥) × (Rose (2 ^ 64 - 2) (2 ^ 64 - 2) → ⊥)
    × Rose (2 ^ 64 - 2) (2 ^ 64 - 1) × Rose (2 ^ 64 - 1) (2 ^ 64 - 1)
rises = (
  omega arith,
  λ no. omega (arith, no),
  omega arith,
  λ no. omega (arith, no),
  λ no. omega (arith, no),
  omega arith,
  omega arith,
)

-- ---- files

abbrev one_file : List ℕ → File → Files
one_file name file = put no_files name (Some file)

abbrev made : Files
made = after_append (codes "a") (codes "xy") (after_create (codes "a") no_files)

abbrev kept : Files
kept = after_append (codes "a") (codes "z") (after_sync (codes "a") made)

-- each name has the file that was put there last
pub names_stand :
    (one_file (codes "a") (clean (codes "x")) (codes "a") ≡ Some (clean (codes "x")))
    × (one_file (codes "a") (clean (codes "x")) (codes "b") ≡ None)
    × (put (one_file (codes "a") (clean [])) (codes "a") None (codes "a") ≡ None)
names_stand = (refl, refl, refl)

pub calls :
    (made (codes "a") ≡ Some (dirty [] (codes "xy")))
    × (kept (codes "a") ≡ Some (dirty (codes "xy") (codes "z")))
    × (contents_at kept (codes "a") ≡ Some (codes "xyz"))
    × (after_append (codes "b") (codes "x") kept (codes "b") ≡ None)
    × (after_append (codes "a") [] (one_file (codes "a") (clean (codes "x"))) (codes "a") ≡ Some (clean (codes "x")))
    × (after_rename (codes "a") (codes "b") kept (codes "a") ≡ None)
    × (after_rename (codes "a") (codes "b") kept (codes "b") ≡ Some (dirty (codes "xy") (codes "z")))
    × (after_rename (codes "a") (codes "a") kept (codes "a") ≡ Some (dirty (codes "xy") (codes "z")))
    × (after_remove (codes "a") kept (codes "a") ≡ None)
    × (last_map made (kept ∷ no_files ∷ []) (codes "a") ≡ None)
unfolding after_create after_append after_sync after_rename after_remove
calls = (refl, refl, refl, refl, refl, refl, refl, refl, refl, refl)

-- a crash leaves the kept bytes and then any, and makes and takes away no file
pub images :
    FileImage (kept (codes "a")) (Some (clean (codes "xy?")))
    × (FileImage (kept (codes "a")) (Some (clean (codes "x"))) → ⊥)
    × (FileImage (Some (clean (codes "x"))) (Some (clean (codes "xy"))) → ⊥)
    × (FileImage (kept (codes "a")) None → ⊥)
    × (FileImage None (Some (clean [])) → ⊥)
    × (FileImage (kept (codes "a")) (kept (codes "a")) → ⊥)
unfolding after_create after_append after_sync
images = ((codes "?", refl), λ no. cc (no.1), λ no. cc no, λ no. no, λ no. no, λ no. no)

-- ---- names, writes, partitions

pub names :
    (is_pathname [] ≡ false) × (is_pathname (codes "a/b") ≡ true) × (is_pathname (97 ∷ 0 ∷ []) ≡ false)
    × (is_pathname (255 ∷ 1 ∷ []) ≡ true)
names = (refl, refl, refl, refl)

pub writes :
    with_write (codes "b") (record { bytes = codes "a"; writes = 1 }) ≡ record { bytes = codes "ab"; writes = 2 }
writes = refl

abbrev held : Held
held = (codes "a", codes "x\ny\r\nz") ∷ (codes "b", []) ∷ []

pub partitions :
    (bytes_from held (codes "a") 2 3 ≡ codes "y\r\n") × (bytes_from held (codes "a") 5 9 ≡ codes "z")
    × (bytes_from held (codes "b") 0 1 ≡ []) × (bytes_from held (codes "c") 0 1 ≡ [])
    × (listing_of held ≡ (codes "a", 6) ∷ (codes "b", 0) ∷ [])
    × (seen_by_look (codes "x\ny\r\n") ≡ 0 ∷ 10 ∷ 0 ∷ 0 ∷ 10 ∷ [])
unfolding bytes_from seen_by_look
partitions = (refl, refl, refl, refl, refl, refl)
