-- What the choice of a file does to a shelf.
use Rattle.std.specs.Prelude.{◌≡◌, ⊤, ℕ, ◌≤◌, Bool, true, false, Result, Ok, Err}
use Rattle.file_io.specs.Faults.{Rose, one_more}
use Rattle.file_io.specs.declared.error.ChooseError.{ChooseError}
use Rattle.file_io.specs.declared.error.ChooseError.TheVariants as choice

-- `Failed` comes only where the count rose
abbrev pub FailsOnlyIfRose : {T : Type 0} → ℕ → ℕ → Result T ChooseError → Type 0
FailsOnlyIfRose before now (Ok _) = ⊤
FailsOnlyIfRose before now (Err choice.Failed) = Rose before now
FailsOnlyIfRose before now (Err choice.NoMemory) = ⊤

-- the count never falls, and `Failed` comes only where it rose
pub record HasChoiceCause {T : Type 0} (before now : ℕ) (result : Result T ChooseError) : Type 0 where
  pub later : before ≤ now
  pub failed : FailsOnlyIfRose before now result

-- the count changed only where the answer is `Failed`
abbrev pub ChangedOnlyIfNotFound : {T : Type 0} → ℕ → ℕ → Result T ChooseError → Type 0
ChangedOnlyIfNotFound before now (Ok _) = now ≡ before
ChangedOnlyIfNotFound before now (Err choice.Failed) = ⊤
ChangedOnlyIfNotFound before now (Err choice.NoMemory) = now ≡ before

-- the count after a choice: one more where it failed, else as before
abbrev pub count_after_choice : {T : Type 0} → ℕ → Result T ChooseError → ℕ
count_after_choice before (Ok _) = before
count_after_choice before (Err choice.Failed) = one_more before
count_after_choice before (Err choice.NoMemory) = before

-- a choice fails exactly where it is to, and never lacks memory
abbrev pub FailsExactly : {T : Type 0} → Bool → Result T ChooseError → Type 0
FailsExactly fails (Ok _) = fails ≡ false
FailsExactly fails (Err choice.Failed) = fails ≡ true
FailsExactly fails (Err choice.NoMemory) = ⊥
