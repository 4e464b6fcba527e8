-- What is known of a result in two ways.
use Rattle.std.proofs.Common.{Result, Ok, Err, IfOk}

pub if-both : {A E : Type 0} (P Q R : A → Type 0) (r : Result A E) → ((a : A) → P a → Q a → R a) → IfOk r P → IfOk r Q → IfOk r R
if-both P Q R (Ok a) f p q = f a p q
if-both P Q R (Err e) f p q = tt
