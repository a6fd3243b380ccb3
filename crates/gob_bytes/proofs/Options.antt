-- What is known of the value that may be there.
use Rattle.std.proofs.Common.{IfSome, Some, None}
use Rattle.std.specs.declared.option.Option.{Option}

pub if_both : {A : Type 0} {P Q : A → Type 0} (o : Option A) → ((a : A) → P a → Q a) → IfSome o P → IfSome o Q
if_both None f p = tt
if_both (Some a) f p = f a p

pub if_two : {A : Type 0} {P Q R : A → Type 0} (o : Option A) → ((a : A) → P a → Q a → R a) → IfSome o P → IfSome o Q
    → IfSome o R
if_two None f p q = tt
if_two (Some a) f p q = f a p q

pub if_three : {A : Type 0} {P Q R S : A → Type 0} (o : Option A) → ((a : A) → P a → Q a → R a → S a) → IfSome o P
    → IfSome o Q → IfSome o R → IfSome o S
if_three None f p q r = tt
if_three (Some a) f p q r = f a p q r

pub always : {A : Type 0} {P : A → Type 0} (o : Option A) → ((a : A) → P a) → IfSome o P
always None f = tt
always (Some a) f = f a
