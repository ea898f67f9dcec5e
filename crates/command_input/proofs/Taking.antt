-- A reader of one kind of file that took some bytes, as one of instances.
use Rattle.std.proofs.Common.{◌≡◌, ◌⊎◌, ℕ, List, Result, Ok, Err, IfOk, IsOkAnd, inl, inr, sym, ap, subst}
use Rattle.row_model.specs.declared.refusal.Read.{Read}
use Rattle.row_model.specs.declared.refusal.Read.TheVariants as read
use Rattle.row_model.specs.declared.refusal.Refusal.{Refusal}
use Rattle.command_input.specs.Instances.{map_read}
use Rattle.command_input.specs.declared.instance_reader.InstanceReader.{InstanceReader}

-- what holds of the one holds of the other
pub over : {R E F : Type 0} (make : R → InstanceReader) (took : Result (R × ℕ) E) (made : Result (InstanceReader × ℕ) F)
    → IfOk made (λ m. IsOkAnd took (λ one. (m.0 ≡ make one.0) × (m.1 ≡ one.1))) → (P : R × ℕ → Type 0) (Q : InstanceReader × ℕ → Type 0)
    → ((one : R) (count : ℕ) → P (one, count) → Q (make one, count)) → IfOk took P → IfOk made Q
over make (Ok (one, n)) (Ok (reader, m)) same P Q on h = subst (λ r. Q (r, m)) (sym same.0) (subst (λ k. Q (make one, k)) (sym same.1) (on one n h))
over make (Err e) (Ok m) same P Q on h = absurd same
over make took (Err e) same P Q on h = tt

-- what is refused as one kind of file is refused as an instance
pub refused_as : {A B L : Type 0} (f : A → B) (all : List ℕ → Read A) (refusal : Refusal) → L ⊎ ((rest : List ℕ) → all rest ≡ read.Refused refusal)
    → L ⊎ ((rest : List ℕ) → map_read f (all rest) ≡ read.Refused refusal)
refused_as f all refusal (inl lacks) = inl lacks
refused_as f all refusal (inr refused) = inr (λ rest. ap (map_read f) (refused rest))
