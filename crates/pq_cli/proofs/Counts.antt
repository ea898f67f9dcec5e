-- What the steps of a command come to, by the steps of the call that makes its reply.
use Rattle.std.proofs.Common.{◌≡◌, ◌≢◌, ◌⊎◌, ℕ, List, [], ◌∷◌, ◌++◌, inl, inr, arith, subst, sym, ◌∙◌, ap, append_assoc, append-nil, refl, Option, Some, None, IfSome}
use Rattle.std.specs.Prelude.{Result, Ok, Err, IsErrAnd}
use Rattle.row_model.specs.Rows.{RowList}
use Rattle.row_model.specs.declared.refusal.Read.{Read}
use Rattle.row_model.specs.declared.refusal.Read.TheVariants as read
use Rattle.file_io.specs.Taken.{Taken}
use Rattle.instance_model.specs.Instance.{InstanceValue, IsSideOf}
use Rattle.command_input.specs.Words.{Command, Solve, Check, Extend, Core, CheckCore, Gen, Meet, ListOrders, UnitModel, CheckUnit}
use Rattle.verdict_replies.specs.declared.reply.Reply.{Reply}
use Rattle.solve_replies.specs.Steps.{SolvesMatrixWithin, SolvesWithin}
use Rattle.solve_replies.specs.Charges.{ExtendsWithin}
use Rattle.pq_cli.specs.Replies.{refusal_of}
use Rattle.pq_cli.specs.Reading.{ReadsFile}
use Rattle.pq_cli.specs.Runs.{OfTaken, taken_since}
use Rattle.pq_cli.specs.Stops.{stop_status, reply_status}
use Rattle.pq_cli.specs.Steps.{StepsOn, CountsSteps, CountsReply}
use Rattle.pq_cli.specs.declared.stop.Stop.{Stop}
use Rattle.pq_cli.specs.declared.stop.Stop.TheVariants as stop
use Rattle.pq_cli.proofs.Frame.{since, one_fits, two_fit}

-- each instance has a first side
first_side : (i : InstanceValue) → IsSideOf i 1
first_side i = grind arith

-- no step is within all bounds
matrix_stands : (m : RowList) (status s : ℕ) → ((status ≡ 0) ⊎ (status ≡ 1) → ⊥) → SolvesMatrixWithin m status s s
matrix_stands m status s low = record { yes = λ e. omega arith; no = λ e. absurd (low (inr e)); most = omega arith }

sides_stand : (i : InstanceValue) (status s : ℕ) → ((status ≡ 0) ⊎ (status ≡ 1) → ⊥) → SolvesWithin i status s s
sides_stand i status s low = record { yes = λ e. omega arith; side = 1; is_side = first_side i; no = λ e. absurd (low (inr e)); most = omega arith }

extension_stands : (m : RowList) (further : List (List ℕ)) (status s : ℕ) → ((status ≡ 0) ⊎ (status ≡ 1) → ⊥) → ExtendsWithin m further status s s
extension_stands m further status s low = record { base = λ e. absurd (low (inr e)); session = λ e. absurd (low (inl e)); most = omega arith }

pub stands : (command : Command) (files : List (List ℕ)) (status s : ℕ) → ((status ≡ 0) ⊎ (status ≡ 1) → ⊥) → StepsOn command files status s s
stands (Solve kind file) [] status s low = refl
stands (Solve kind file) (_ ∷ []) status s low = λ i made. sides_stand i status s low
stands (Solve kind file) (_ ∷ _ ∷ _) status s low = refl
stands (UnitModel file) [] status s low = refl
stands (UnitModel file) (_ ∷ []) status s low = λ i made. sides_stand i status s low
stands (UnitModel file) (_ ∷ _ ∷ _) status s low = refl
stands (ListOrders kind file count) [] status s low = refl
stands (ListOrders kind file count) (_ ∷ []) status s low = λ m made. matrix_stands m status s low
stands (ListOrders kind file count) (_ ∷ _ ∷ _) status s low = refl
stands (Gen seed c rows) [] status s low = matrix_stands _ status s low
stands (Gen seed c rows) (_ ∷ _) status s low = refl
stands (Extend kind file more) [] status s low = refl
stands (Extend kind file more) (_ ∷ []) status s low = refl
stands (Extend kind file more) (_ ∷ _ ∷ []) status s low = λ m rows made told. extension_stands m rows.rows status s low
stands (Extend kind file more) (_ ∷ _ ∷ _ ∷ _) status s low = refl
stands (Core kind file) [] status s low = refl
stands (Core kind file) (_ ∷ []) status s low = λ m made. record { none = λ e. absurd (low (inr e)); core = λ e. absurd (low (inl e)); most = omega arith }
stands (Core kind file) (_ ∷ _ ∷ _) status s low = refl
stands (Meet columns first second) [] status s low = refl
stands (Meet columns first second) (_ ∷ []) status s low = refl
stands (Meet columns first second) (_ ∷ _ ∷ []) status s low = λ t u one other. record { shared = λ e. omega arith; most = omega arith }
stands (Meet columns first second) (_ ∷ _ ∷ _ ∷ _) status s low = refl
stands (Check kind file verdict) files status s low = refl
stands (CheckCore kind file core) files status s low = refl
stands (CheckUnit file unit) files status s low = refl

-- what a status tells is told by that of a reply that can't be written
pub cut_short : (command : Command) (files : List (List ℕ)) (status s n : ℕ) → StepsOn command files status s n → StepsOn command files 5 s n
cut_short (Solve kind file) [] status s n w = w
cut_short (Solve kind file) (_ ∷ []) status s n w = λ i made. (let v = w i made in record { yes = λ e. absurd (omega (arith, e)); side = v.side; is_side = v.is_side; no = λ e. absurd (omega (arith, e)); most = v.most })
cut_short (Solve kind file) (_ ∷ _ ∷ _) status s n w = w
cut_short (UnitModel file) [] status s n w = w
cut_short (UnitModel file) (_ ∷ []) status s n w = λ i made. (let v = w i made in record { yes = λ e. absurd (omega (arith, e)); side = v.side; is_side = v.is_side; no = λ e. absurd (omega (arith, e)); most = v.most })
cut_short (UnitModel file) (_ ∷ _ ∷ _) status s n w = w
cut_short (ListOrders kind file count) [] status s n w = w
cut_short (ListOrders kind file count) (_ ∷ []) status s n w = λ m made. record { yes = λ e. absurd (omega (arith, e)); no = λ e. absurd (omega (arith, e)); most = (w m made).most }
cut_short (ListOrders kind file count) (_ ∷ _ ∷ _) status s n w = w
cut_short (Gen seed c rows) [] status s n w = record { yes = λ e. absurd (omega (arith, e)); no = λ e. absurd (omega (arith, e)); most = w.most }
cut_short (Gen seed c rows) (_ ∷ _) status s n w = w
cut_short (Extend kind file more) [] status s n w = w
cut_short (Extend kind file more) (_ ∷ []) status s n w = w
cut_short (Extend kind file more) (_ ∷ _ ∷ []) status s n w =
    λ m rows made told. record { base = λ e. absurd (omega (arith, e)); session = λ e. absurd (omega (arith, e)); most = (w m rows made told).most }
cut_short (Extend kind file more) (_ ∷ _ ∷ _ ∷ _) status s n w = w
cut_short (Core kind file) [] status s n w = w
cut_short (Core kind file) (_ ∷ []) status s n w = λ m made. record { none = λ e. absurd (omega (arith, e)); core = λ e. absurd (omega (arith, e)); most = (w m made).most }
cut_short (Core kind file) (_ ∷ _ ∷ _) status s n w = w
cut_short (Meet columns first second) [] status s n w = w
cut_short (Meet columns first second) (_ ∷ []) status s n w = w
cut_short (Meet columns first second) (_ ∷ _ ∷ []) status s n w = λ t u one other. record { shared = λ e. absurd (omega (arith, e)); most = (w t u one other).most }
cut_short (Meet columns first second) (_ ∷ _ ∷ _ ∷ _) status s n w = w
cut_short (Check kind file verdict) files status s n w = w
cut_short (CheckCore kind file core) files status s n w = w
cut_short (CheckUnit file unit) files status s n w = w

-- what stands in the way has no status of a reply
no_reply_status : (r : Result Reply Stop) (P : Stop → Type 0) → IsErrAnd r P → (reply_status r ≡ 0) ⊎ (reply_status r ≡ 1) → ⊥
no_reply_status (Ok reply) P h e = absurd h
no_reply_status (Err (stop.Refused which refusal)) P h e = elim e [ inl f ↦ omega (arith, f) | inr f ↦ omega (arith, f) ]
no_reply_status (Err stop.ReadFault) P h e = elim e [ inl f ↦ omega (arith, f) | inr f ↦ omega (arith, f) ]
no_reply_status (Err stop.NoMemory) P h e = elim e [ inl f ↦ omega (arith, f) | inr f ↦ omega (arith, f) ]

-- a file is read, or stands in the way, and no step is taken
pub counts_none : {S : Type 0} (taken : S → List Taken) (old new : S) (c : Command) (r : Result Reply Stop) (P : Stop → Type 0) (s : ℕ) → IsErrAnd r P → CountsReply taken old new c r s s
counts_none taken old new c r P s h = record { none = λ e. refl; refused = λ files f d. refl; steps = λ files f. stands c files (reply_status r) s (no_reply_status r P h) }

-- no step is taken for files of which none is refused, if one is
abbrev WhereRefused : Command → ℕ → ℕ → List (List ℕ) → Type 0
WhereRefused c s n files = refusal_of c files ≢ None → n ≡ s

accepted : (c : Command) (s n : ℕ) (files : List (List ℕ)) → refusal_of c files ≡ None → WhereRefused c s n files
accepted c s n files e d = absurd (d e)

-- a status of a reply, or that of memory, is none of a file
abbrev pub IsAfter : ℕ → Type 0
IsAfter status = ((status ≡ 3) ⊎ (status ≡ 4)) → ⊥

memory_after : IsAfter 6
memory_after e = elim e [ inl f ↦ omega arith | inr f ↦ omega arith ]

pub memory_status : (r : Result Reply Stop) → IsErrAnd r (λ t. t ≡ stop.NoMemory) → reply_status r ≡ 6
memory_status (Ok reply) h = absurd h
memory_status (Err t) h = ap stop_status h

pub memory_comes_after : (r : Result Reply Stop) → IsErrAnd r (λ t. t ≡ stop.NoMemory) → IsAfter (reply_status r)
memory_comes_after (Ok reply) h e = absurd h
memory_comes_after (Err t) h e = let low : IsAfter (stop_status t) = rw h memory_after in low e

pub reply_after : (status : ℕ) → (status ≡ 0) ⊎ (status ≡ 1) → IsAfter status
reply_after status low e = elim low [ inl z ↦ elim e [ inl f ↦ omega (arith, z, f) | inr f ↦ omega (arith, z, f) ] | inr o ↦ elim e [ inl f ↦ omega (arith, o, f) | inr f ↦ omega (arith, o, f) ] ]

module _ {S : Type 0} (content : S → List ℕ → Option (List ℕ)) (taken : S → List Taken) (faults : S → ℕ) where
  -- no file is asked for
  pub counts_alone : (old : S) (c : Command) (r : Result Reply Stop) (s n : ℕ) → IsAfter (reply_status r) → StepsOn c [] (reply_status r) s n → CountsReply taken old old c r s n
  counts_alone old c r s n after w =
      let none_since : taken_since (taken old) (taken old) ≡ [] = since (taken old) (taken old) [] (sym (append-nil (taken old))) in
      record {
        none = λ e. absurd (after e);
        refused = subst (λ ts. OfTaken ts (WhereRefused c s n)) (sym none_since) (alone (WhereRefused c s n) (accepted c s n [] refl));
        steps = subst (λ ts. OfTaken ts (λ files. StepsOn c files (reply_status r) s n)) (sym none_since) (alone (λ files. StepsOn c files (reply_status r) s n) w);
      }
    where
      alone : (P : List (List ℕ) → Type 0) → P [] → OfTaken [] P
      alone P w [] f = w
      alone P w (bytes ∷ files) f = absurd f

  -- one file was read
  pub counts_after_one : {V : Type 0} (old new : S) (c : Command) (r : Result Reply Stop) (name : List ℕ) (reads : List ℕ → Read V → Type 0) (holds : Read V → Type 0) (value : V) (s n : ℕ)
      → ReadsFile content taken faults old new name 1 reads holds (Ok value) → IsAfter (reply_status r) → ((bytes : List ℕ) → reads bytes (read.Ok value) → refusal_of c (bytes ∷ []) ≡ None)
      → ((bytes : List ℕ) → reads bytes (read.Ok value) → StepsOn c (bytes ∷ []) (reply_status r) s n) → CountsReply taken old new c r s n
  counts_after_one old new c r name reads holds value s n took after fine w =
      let begun : taken new ≡ taken old ++ took.0 ∷ [] = elim took.1.asks [ inl one ↦ one | inr none ↦ absurd (omega (arith, none.1)) ] in
      record {
        none = λ e. absurd (after e);
        refused = subst (λ ts. OfTaken ts (WhereRefused c s n)) (sym (since (taken old) (taken new) (took.0 ∷ []) begun))
            (one_fits took.0 (WhereRefused c s n) (λ bytes f. accepted c s n (bytes ∷ []) (fine bytes (took.1.value bytes f))));
        steps = subst (λ ts. OfTaken ts (λ files. StepsOn c files (reply_status r) s n)) (sym (since (taken old) (taken new) (took.0 ∷ []) begun))
            (one_fits took.0 (λ files. StepsOn c files (reply_status r) s n) (λ bytes f. w bytes (took.1.value bytes f)));
      }

  -- two files were read
  pub counts_after_two : {V W : Type 0} (old mid new : S) (c : Command) (r : Result Reply Stop) (first second : List ℕ) (reads : List ℕ → Read V → Type 0) (holds : Read V → Type 0) (value : V)
      (reads_second : List ℕ → Read W → Type 0) (holds_second : Read W → Type 0) (other : W) (s n : ℕ)
      → ReadsFile content taken faults old mid first 1 reads holds (Ok value) → ReadsFile content taken faults mid new second 2 reads_second holds_second (Ok other) → IsAfter (reply_status r)
      → ((bytes given : List ℕ) → reads bytes (read.Ok value) → reads_second given (read.Ok other) → refusal_of c (bytes ∷ given ∷ []) ≡ None)
      → ((bytes given : List ℕ) → reads bytes (read.Ok value) → reads_second given (read.Ok other) → StepsOn c (bytes ∷ given ∷ []) (reply_status r) s n) → CountsReply taken old new c r s n
  counts_after_two old mid new c r first second reads holds value reads_second holds_second other s n took also after fine w =
      let begun : taken mid ≡ taken old ++ took.0 ∷ [] = elim took.1.asks [ inl one ↦ one | inr none ↦ absurd (omega (arith, none.1)) ] in
      let further : taken new ≡ taken mid ++ also.0 ∷ [] = elim also.1.asks [ inl two ↦ two | inr none ↦ absurd (omega (arith, none.1)) ] in
      let both : taken new ≡ taken old ++ took.0 ∷ also.0 ∷ [] = further ∙ ap (λ ts. ts ++ also.0 ∷ []) begun ∙ append_assoc (taken old) (took.0 ∷ []) (also.0 ∷ []) in
      record {
        none = λ e. absurd (after e);
        refused = subst (λ ts. OfTaken ts (WhereRefused c s n)) (sym (since (taken old) (taken new) (took.0 ∷ also.0 ∷ []) both))
            (two_fit took.0 also.0 (WhereRefused c s n) (λ bytes given f g. accepted c s n (bytes ∷ given ∷ []) (fine bytes given (took.1.value bytes f) (also.1.value given g))));
        steps = subst (λ ts. OfTaken ts (λ files. StepsOn c files (reply_status r) s n)) (sym (since (taken old) (taken new) (took.0 ∷ also.0 ∷ []) both))
            (two_fit took.0 also.0 (λ files. StepsOn c files (reply_status r) s n) (λ bytes given f g. w bytes given (took.1.value bytes f) (also.1.value given g)));
      }

  -- one file was read, and then memory was refused
  pub counts_after_memory : {V : Type 0} (old new : S) (c : Command) (r : Result Reply Stop) (name : List ℕ) (reads : List ℕ → Read V → Type 0) (holds : Read V → Type 0) (value : V) (s n : ℕ)
      → ReadsFile content taken faults old new name 1 reads holds (Ok value) → IsErrAnd r (λ t. t ≡ stop.NoMemory) → ((bytes : List ℕ) → reads bytes (read.Ok value) → refusal_of c (bytes ∷ []) ≡ None)
      → ((bytes : List ℕ) → reads bytes (read.Ok value) → StepsOn c (bytes ∷ []) 6 s n) → CountsReply taken old new c r s n
  counts_after_memory old new c (Ok reply) name reads holds value s n took h fine w = absurd h
  counts_after_memory old new c (Err t) name reads holds value s n took h fine w =
      rw h (counts_after_one old new c (Err stop.NoMemory) name reads holds value s n took memory_after fine w)

-- the command that the words are
pub of_words : (o : Option Command) (c : Command) (ts : List Taken) (status s n : ℕ) → o ≡ Some c → CountsSteps c ts status s n → IfSome o (λ k. CountsSteps k ts status s n)
of_words o c ts status s n e counts = subst (λ k. IfSome k (λ c. CountsSteps c ts status s n)) (sym e) counts

-- a reply that can't be written
pub counts_cut_short : (c : Command) (ts : List Taken) (status s n : ℕ) → CountsSteps c ts status s n → CountsSteps c ts 5 s n
counts_cut_short c ts status s n counts = record {
  none = λ e. elim e [ inl f ↦ absurd (omega (arith, f)) | inr f ↦ absurd (omega (arith, f)) ];
  refused = counts.refused;
  steps = λ files f. cut_short c files status s n (counts.steps files f);
}
