-- What is known of the map where an open sequence was read, or none was there.
use Rattle.std.proofs.Common.{◌≡◌, ℕ, true, List, refl, sym, ap, subst, ◌∙◌, Some, None, IfSome}
use Rattle.std.proofs.Common.{option_map}
use Rattle.std.specs.declared.option.Option.{Option}
use Rattle.std.specs.List.{list_all}
use Rattle.gob_bytes.specs.Paths.{sequence_name}
use Rattle.gob_bytes.proofs.Options.{if_both, if_two}
use Rattle.gob_device.specs.Disk.{Disk, File, Files, contents_at, contents_of}
use Rattle.gob_recovery.specs.Sequence.{CommitStep, Reads}
use Rattle.gob_recovery.specs.Settle.{IsDamaged, Open, can_do, lost, sequence}
use Rattle.gob_seq.specs.Maps.{CanFinish, FirstLost}

no_file : (o : Option File) → None ≡ option_map contents_of o → o ≡ None
no_file None e = refl
no_file (Some f) e = cc

-- a file that reads as these bytes
record ReadFile (o : Option File) (bytes : List ℕ) : Type 0 where
  file : File
  here : o ≡ Some file
  holds : bytes ≡ contents_of file

a_file : (o : Option File) (bytes : List ℕ) → Some bytes ≡ option_map contents_of o → ReadFile o bytes
a_file None bytes e = cc
a_file (Some f) bytes e = record { file = f; here = refl; holds = let same : bytes ≡ contents_of f = cc in same }

pub closed_found : (name : List ℕ) (o : Option Disk) → IfSome o (λ d. None ≡ contents_at d.files name)
    → IfSome o (λ d. d.files name ≡ None)
closed_found name o none = if_both o (λ d e. no_file (d.files name) e) none

open_read : (job name bytes : List ℕ) (steps : List CommitStep) (m : Files) → name ≡ sequence_name job
    → Some bytes ≡ contents_at m name → Reads job bytes steps → Open job m steps
open_read job name bytes steps m is read reads =
    let f = a_file (m name) bytes read in
    record { file = f.file; here = sym (ap m is) ∙ f.here; reads = subst (λ b. Reads job b steps) f.holds reads }

-- the open sequence can't be read
pub unread_damaged : (job name text bytes given : List ℕ) (o : Option Disk) → name ≡ sequence_name job → text ≡ name
    → given ≡ bytes
    → IfSome o (λ d. Some bytes ≡ contents_at d.files name) → ((steps : List CommitStep) → Reads job given steps → ⊥)
    → IfSome o (λ d. IsDamaged job d.files text)
unread_damaged job name text bytes given o is told at read none = if_both o (λ d e.
    let f = a_file (d.files name) bytes e in
    subst (IsDamaged job d.files) (sym (told ∙ is))
    (sequence f.file (sym (ap d.files is) ∙ f.here)
    (λ steps reads. none steps (subst (λ b. Reads job b steps) (sym (at ∙ f.holds)) reads))))
    read

-- a source is lost
pub lost_damaged : (job name text source bytes slice : List ℕ) (steps ss : List CommitStep) (o p : Option Disk)
    → name ≡ sequence_name job
    → text ≡ source → p ≡ o → ss ≡ steps → slice ≡ bytes → IfSome o (λ d. Some bytes ≡ contents_at d.files name)
    → Reads job slice steps → IfSome p (λ d. FirstLost d.files ss source) → IfSome o (λ d. IsDamaged job d.files text)
lost_damaged job name text source bytes slice steps ss o p is told same given at read reads first =
    if_two o (λ d e l. subst (IsDamaged job d.files) (sym told)
    (lost l.before source l.target l.after
    (subst (Open job d.files) (sym given ∙ l.whole)
    (open_read job name bytes steps d.files is e (subst (λ b. Reads job b steps) at reads))) l.can l.cannot))
    read (subst (λ q. IfSome q (λ d. FirstLost d.files ss source)) same first)

pub can_found : (job name bytes slice : List ℕ) (steps ss : List CommitStep) (o p : Option Disk)
    → name ≡ sequence_name job → p ≡ o
    → ss ≡ steps → slice ≡ bytes → IfSome o (λ d. Some bytes ≡ contents_at d.files name) → Reads job slice steps
    → IfSome p (λ d. list_all (can_do d.files) ss ≡ true) → IfSome o (λ d. CanFinish job d.files steps)
can_found job name bytes slice steps ss o p is same given at read reads can =
    if_two o (λ d e k. record {
      opened = open_read job name bytes steps d.files is e (subst (λ b. Reads job b steps) at reads);
      can = sym (ap (list_all (can_do d.files)) given) ∙ k;
    }) read (subst (λ q. IfSome q (λ d. list_all (can_do d.files) ss ≡ true)) same can)
