-- A check of what `solve` wrote on the same bytes.
use Rattle.std.proofs.Common.{IfSome, option_map, get_or, ◌≡◌, ◌≢◌, ◌⊎◌, ◌∙◌, ℕ, zero, suc, ◌≤◌, List, [], ◌∷◌, length, take, codes, Option, Some, None, inl, inr, sym, ap, subst, refl, arith}
use Rattle.std.specs.Io.KnownBytes.{Appends}
use Rattle.row_model.specs.declared.kind.Kind.{Kind}
use Rattle.row_model.specs.declared.refusal.Refusal.{Refusal}
use Rattle.file_io.specs.Taken.{Taken}
use Rattle.std.specs.Prelude.{◌↔◌, IsNone}
use Rattle.file_io.specs.Faults.{Rose}
use Rattle.file_io.specs.Sink.{AppendsPrefix}
use Rattle.command_input.specs.Words.{Command, Solve, Check, command_of, kind_of, files_of}
use Rattle.command_input.specs.Instances.{instance_of}
use Rattle.pq_cli.specs.Replies.{Replies, refused_at, refusal_of}
use Rattle.pq_cli.specs.Check.{AgreedLaw}
use Rattle.pq_cli.specs.Runs.{AllFit, AgreesWith, TakesFiles, TakesInTurn, WritesOut, CountsWrites, EndsAtRefusal, taken_since}
use Rattle.pq_cli.specs.Real.{names_taken}
use Rattle.pq_cli.specs.Told.{AllTold}
use Rattle.check_after_solve.specs.Agreed.{instance_name, IsReplyOn, IsSolvedAs, IsFoundAs, FindsValid}

-- the name of the file of the verdict
abbrev pub verdict_name : List ℕ
verdict_name = codes "verdict"

abbrev solving : Kind → Command
solving kind = Solve kind instance_name

abbrev checking : Kind → Command
checking kind = Check kind instance_name verdict_name

-- where a shelf tells the bytes of its files, these are among those that the files may have by what was taken
abbrev pub FitsWhereTold : Type 0
FitsWhereTold = (told : List ℕ → Option (List ℕ)) (ts : List Taken) (files : List (List ℕ)) → AgreesWith told ts → AllTold told (names_taken ts) files → AllFit ts files

-- a run ended so over the files that were taken: no read failed, and the words were those of a command
pub record EndsOver (told : List ℕ → Option (List ℕ)) (c : Command) (ts : List Taken) (before after : Option (List ℕ)) (status : ℕ) : Type 0 where
  pub asks : TakesInTurn told c ts status
  pub refused : status ≡ 3 → (which : ℕ) × (refusal : Refusal) × EndsAtRefusal c ts which refusal
  pub written : WritesOut ts c before after status
  pub in_grammar : status ≢ 2
  pub readable : status ≢ 4
  pub range : status ≤ 6

-- where memory is refused nothing is written, and no fault is counted
abbrev pub IsStill : Option (List ℕ) → Option (List ℕ) → ℕ → ℕ → ℕ → Type 0
IsStill before after faults_before faults_after status = status ≡ 6 → (after ≡ before) × (faults_after ≡ faults_before)

as_reply : {status : ℕ} → (status ≡ 0) ⊎ (status ≡ 1) → (status ≡ 0) ⊎ (status ≡ 1) ⊎ (status ≡ 5)
as_reply (inl none) = inl none
as_reply (inr one) = inr (inl one)

-- what `solve` replied to is not refused
is_fine : (kind : Kind) (bytes : List ℕ) (status : ℕ) (text : List ℕ) → Replies (solving kind) (bytes ∷ []) status text → refused_at 1 (instance_of kind bytes) ≡ None
unfolding Replies
is_fine kind bytes status text reply = ap (refused_at 1) reply.1

-- a refusal is that of the first file
first_file : (which : ℕ) → 1 ≤ which → which ≤ 1 → which ≡ 1
first_file which from to = omega (arith, from, to)

module _ (law : FitsWhereTold) (told : List ℕ → Option (List ℕ)) (kind : Kind) (bytes : List ℕ) (instance_is : told instance_name ≡ Some bytes) (ts : List Taken) where
  -- the one file that was taken may have the bytes that the shelf tells
  one_fits : (status : ℕ) (rest : List (List ℕ)) (c : Command) → files_of c ≡ instance_name ∷ rest → TakesInTurn told c ts status → length ts ≡ 1 → AllFit ts (bytes ∷ [])
  one_fits status rest c names asks count =
      law told ts (bytes ∷ []) asks.agree
      (subst (λ ns. AllTold told ns (bytes ∷ [])) (sym (asks.names ∙ ap (λ k. take k (files_of c)) count ∙ ap (take 1) names)) (instance_is, tt))

  module _ (text : List ℕ) where
    whole_reply : (status : ℕ) → (status ≡ 0) ⊎ (status ≡ 1) → EndsOver told (solving kind) ts (Some []) (Some text) status → Replies (solving kind) (bytes ∷ []) status text
    whole_reply status either run =
        let w = run.written.whole either (bytes ∷ []) (one_fits status [] (solving kind) refl run.asks (run.asks.on_reply (as_reply either))) in
        subst (λ t. Replies (solving kind) (bytes ∷ []) status t) (sym w.2) w.1

    is_refused : (which : ℕ) (refusal : Refusal) → EndsAtRefusal (solving kind) ts which refusal → TakesInTurn told (solving kind) ts 3 → refusal_of (solving kind) (bytes ∷ []) ≢ None
    is_refused which refusal ends asks none =
        let some = ends.first (bytes ∷ []) (one_fits 3 [] (solving kind) refl asks (ends.last ∙ first_file which ends.from ends.to)) in
        cc

    pub solved : (status : ℕ) → EndsOver told (solving kind) ts (Some []) (Some text) status → IsSolvedAs kind bytes status text
    solved zero run = inl (inl refl, whole_reply 0 (inl refl) run)
    solved (suc zero) run = inl (inr refl, whole_reply 1 (inr refl) run)
    solved (suc (suc zero)) run = absurd (run.in_grammar refl)
    solved (suc (suc (suc zero))) run = let r = run.refused refl in inr (inl (refl, is_refused r.0 r.1 r.2 run.asks))
    solved (suc (suc (suc (suc zero)))) run = absurd (run.readable refl)
    solved (suc (suc (suc (suc (suc zero))))) run = inr (inr (inl refl))
    solved (suc (suc (suc (suc (suc (suc n)))))) run = inr (inr (inr (omega (arith, run.range))))

  module _ (agreed : AgreedLaw) (verdict : List ℕ) (verdict_is : told verdict_name ≡ Some verdict) (before after : Option (List ℕ)) (faults_before faults_after status : ℕ) (reply : IsReplyOn kind bytes status verdict) where
    both_fit : (found : ℕ) → TakesInTurn told (checking kind) ts found → length ts ≡ 2 → AllFit ts (bytes ∷ verdict ∷ [])
    both_fit found asks count =
        law told ts (bytes ∷ verdict ∷ []) asks.agree
        (subst (λ ns. AllTold told ns (bytes ∷ verdict ∷ [])) (sym (asks.names ∙ ap (λ k. take k (files_of (checking kind))) count)) (instance_is, (verdict_is, tt)))

    is_valid : (found : ℕ) → (found ≡ 0) ⊎ (found ≡ 1) → EndsOver told (checking kind) ts before after found → FindsValid before after faults_before faults_after found
    is_valid found either run =
        let w = run.written.whole either (bytes ∷ verdict ∷ []) (both_fit found run.asks (run.asks.on_reply (as_reply either))) in
        let a = agreed kind instance_name instance_name verdict_name bytes verdict w.0 status found reply.1 w.1 in
        inl (a.0, subst (λ t. Appends before after t) a.1 w.2)

    never_refused : (which : ℕ) (refusal : Refusal) → EndsAtRefusal (checking kind) ts which refusal → TakesInTurn told (checking kind) ts 3 → ⊥
    never_refused which refusal ends asks =
        let some : refused_at 1 (instance_of kind bytes) ≡ Some (which, refusal) =
        ends.first (bytes ∷ []) (one_fits 3 (verdict_name ∷ []) (checking kind) refl asks (ends.last ∙ first_file which ends.from ends.to)) in
        let none = is_fine kind bytes status verdict reply.1 in
        cc

    -- what was written before a fault is a first part of the same
    is_cut : EndsOver told (checking kind) ts before after 5 → AppendsPrefix before after (codes "valid\n")
    is_cut run =
        let w = run.written.cut_short refl (bytes ∷ verdict ∷ []) (both_fit 5 run.asks (run.asks.on_reply (inr (inr refl)))) in
        let a = agreed kind instance_name instance_name verdict_name bytes verdict w.1 status w.0 reply.1 w.2 in
        subst (λ t. AppendsPrefix before after t) a.1 w.3

    pub found_valid : (found : ℕ) → EndsOver told (checking kind) ts before after found → CountsWrites faults_before faults_after found → IsStill before after faults_before faults_after found → FindsValid before after faults_before faults_after found
    found_valid zero run counts still = is_valid 0 (inl refl) run
    found_valid (suc zero) run counts still = is_valid 1 (inr refl) run
    found_valid (suc (suc zero)) run counts still = absurd (run.in_grammar refl)
    found_valid (suc (suc (suc zero))) run counts still = let r = run.refused refl in absurd (never_refused r.0 r.1 r.2 run.asks)
    found_valid (suc (suc (suc (suc zero)))) run counts still = absurd (run.readable refl)
    found_valid (suc (suc (suc (suc (suc zero))))) run counts still = inr (inl (refl, counts.fault refl, is_cut run))
    found_valid (suc (suc (suc (suc (suc (suc n)))))) run counts still = let six : suc (suc (suc (suc (suc (suc n))))) ≡ 6 = omega (arith, run.range) in let s = still six in inr (inr (six, s.0, s.1))

-- a count that stays at none did not rise
none_rose : Rose 0 0 → ⊥
none_rose rose = omega (arith, rose (λ top. omega (arith, top)))

-- what a run over a shelf says, of which no read fails
module _ {S : Type 0} (content : S → List ℕ → Option (List ℕ)) (taken : S → List Taken) (old new : S) where
  pub ends_over : (found : Option Command) (before after : Option (List ℕ)) (status : ℕ) → IfSome found (λ c. TakesFiles content taken (λ _. 0) old new c status)
      → IfSome found (λ c. WritesOut (taken_since (taken old) (taken new)) c before after status) → (status ≡ 2) ↔ IsNone found → status ≤ 6
      → IfSome found (λ c. EndsOver (content old) c (taken_since (taken old) (taken new)) before after status)
  ends_over None before after status takes written words range = tt
  ends_over (Some c) before after status takes written words range =
      record { asks = takes.asks; refused = takes.refused; written = written; in_grammar = λ two. let none = words.0 two in cc; readable = λ four. none_rose (takes.shelf.fault four); range = range }

-- what holds of a command of a kind holds of the kind
of_kind : (make : Kind → Command) (P : Command → Type 0) (Q : Kind → Type 0) (o : Option Kind) → ((kind : Kind) → P (make kind) → Q kind) → IfSome (option_map make o) P → IfSome o Q
of_kind make P Q None holds p = tt
of_kind make P Q (Some kind) holds p = holds kind p

pub solved_of : (law : FitsWhereTold) (told : List ℕ → Option (List ℕ)) (bytes : List ℕ) → told instance_name ≡ Some bytes → (ts : List Taken) (text word : List ℕ) (status : ℕ) (words : List (List ℕ))
    → words ≡ codes "solve" ∷ word ∷ instance_name ∷ [] → IfSome (command_of words) (λ c. EndsOver told c ts (Some []) (Some text) status)
    → IfSome (kind_of word) (λ kind. IsSolvedAs kind bytes status text)
solved_of law told bytes is ts text word status words e run =
    of_kind solving _ _ (kind_of word) (λ kind ends. solved law told kind bytes is ts text status ends) (subst (λ ws. IfSome (command_of ws) (λ c. EndsOver told c ts (Some []) (Some text) status)) e run)

pub found_of : (law : FitsWhereTold) (agreed : AgreedLaw) (told : List ℕ → Option (List ℕ)) (bytes verdict : List ℕ) → told instance_name ≡ Some bytes → told verdict_name ≡ Some verdict
    → (ts : List Taken) (before after : Option (List ℕ)) (faults_before faults_after : ℕ) (word : List ℕ) (found : ℕ) (words : List (List ℕ))
    → words ≡ codes "check" ∷ word ∷ instance_name ∷ verdict_name ∷ [] → IfSome (command_of words) (λ c. EndsOver told c ts before after found) → CountsWrites faults_before faults_after found
    → IsStill before after faults_before faults_after found
    → IfSome (kind_of word) (λ kind. IsFoundAs kind bytes verdict before after faults_before faults_after found)
found_of law agreed told bytes verdict is verdict_is ts before after faults_before faults_after word found words e run counts still =
    of_kind checking _ _ (kind_of word) (λ kind ends status reply. found_valid law told kind bytes is ts agreed verdict verdict_is before after faults_before faults_after status reply found ends counts still)
    (subst (λ ws. IfSome (command_of ws) (λ c. EndsOver told c ts before after found)) e run)

pub three_words : {a b c x y z : List ℕ} → a ≡ x → b ≡ y → c ≡ z → a ∷ b ∷ c ∷ [] ≡ x ∷ y ∷ z ∷ []
three_words e f g = cc

pub four_words : {a b c d x y z w : List ℕ} → a ≡ x → b ≡ y → c ≡ z → d ≡ w → a ∷ b ∷ c ∷ d ∷ [] ≡ x ∷ y ∷ z ∷ w ∷ []
four_words e f g h = cc

pub other_name : instance_name ≢ verdict_name
other_name e = let h : ◌≡◌ {A = ℕ} 105 118 = ap (λ xs. get_or xs 0 0) e in omega (arith, h)
