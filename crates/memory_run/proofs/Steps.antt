-- From what a run over a shelf and sinks in memory says to what the caller knows of its bytes.
use Rattle.std.proofs.Common.{◌≡◌, ◌≢◌, ◌⊎◌, ◌∙◌, ◌&&◌, ℕ, zero, suc, ◌≤◌, List, [], ◌∷◌, ◌++◌, length, take, drop, Option, Some, None, is_some, Bool, true, false, inl, inr, sym, ap, subst, refl, arith, IfSome}
use Rattle.std.proofs.Math.Path.{fun_ext}
use Rattle.row_model.specs.declared.refusal.Refusal.{Refusal}
use Rattle.std.proofs.Math.Seq.{take-length}
use Rattle.std.proofs.lemmas.Bool.{and_parts, cases_Bool, cases_eq, false≢true}
use Rattle.std.proofs.lemmas.List.{take-append-drop}
use Rattle.std.specs.List.{All}
use Rattle.std.specs.Prelude.{◌↔◌, IsNone, IfNone}
use Rattle.file_io.specs.Taken.{Taken}
use Rattle.pq_io.specs.NamedFiles.{Held, content_of}
use Rattle.pq_cli.specs.Reading.{OnlyReads}
use Rattle.command_input.specs.Words.{Command, Solve, Check, Extend, Gen, Meet, ListOrders, UnitModel, CheckUnit, Core, CheckCore, files_of}
use Rattle.pq_cli.specs.Replies.{Replies, refusal_of}
use Rattle.pq_cli.specs.Promised.{IsPromised, PromiseLaw}
use Rattle.pq_cli.specs.Runs.{AllFit, AgreesWith, OfTaken, taken_since, TakesFiles, TakesInTurn, WritesOut, EndsAtRefusal, IsLineOf, Offers}
use Rattle.pq_cli.specs.Real.{names_taken}
use Rattle.pq_cli.specs.Told.{AllTold}
use Rattle.memory_run.specs.Given.{given, IsGiven, OfFiles, are_told, FailsOnlyAtAnother}
use Rattle.memory_run.specs.Called.{IsFirstRefused, IsFirstAnother, IsLineFor, IsWholeRun}
use Rattle.memory_run.proofs.Names.{is_given, has_bytes}

three_not_four : ◌≡◌ {A = ℕ} 3 4 → ⊥
three_not_four e = omega (arith, e)

reply_not_four : {status : ℕ} → (status ≡ 0) ⊎ (status ≡ 1) → status ≡ 4 → ⊥
reply_not_four (inl none) four = omega (arith, none, four)
reply_not_four (inr one) four = omega (arith, one, four)

reply_is_one : {status : ℕ} → (status ≡ 0) ⊎ (status ≡ 1) → (status ≡ 0) ⊎ (status ≡ 1) ⊎ (status ≡ 5)
reply_is_one (inl none) = inl none
reply_is_one (inr one) = inr (inl one)

-- a status of a run without a reply is one of those
is_other : (status : ℕ) → status ≤ 6 → status ≢ 5 → 2 ≤ status → (status ≡ 2) ⊎ (status ≡ 3) ⊎ (status ≡ 4) ⊎ (status ≡ 6)
is_other zero most five more = absurd (omega (arith, more))
is_other (suc zero) most five more = absurd (omega (arith, more))
is_other (suc (suc zero)) most five more = inl refl
is_other (suc (suc (suc zero))) most five more = inr (inl refl)
is_other (suc (suc (suc (suc zero)))) most five more = inr (inr (inl refl))
is_other (suc (suc (suc (suc (suc zero))))) most five more = absurd (five refl)
is_other (suc (suc (suc (suc (suc (suc n)))))) most five more = inr (inr (inr (omega (arith, most))))

-- no command has more than two files
few_files : (c : Command) → length (files_of c) ≤ 2
few_files (Solve _ _) = omega arith
few_files (Check _ _ _) = omega arith
few_files (Extend _ _ _) = omega arith
few_files (Core _ _) = omega arith
few_files (CheckCore _ _ _) = omega arith
few_files (Gen _ _ _) = omega arith
few_files (Meet _ _ _) = omega arith
few_files (ListOrders _ _ _) = omega arith
few_files (UnitModel _) = omega arith
few_files (CheckUnit _ _) = omega arith

-- where a shelf tells the bytes of its files, these are among those that the files may have by what was taken
abbrev pub ToldLaw : Type 0
ToldLaw = (told : List ℕ → Option (List ℕ)) (ts : List Taken) (files : List (List ℕ)) → AgreesWith told ts → AllTold told (names_taken ts) files → AllFit ts files

module _ {S : Type 0} (content : S → List ℕ → Option (List ℕ)) (taken : S → List Taken) (faults : S → ℕ) (old new : S) where
  pub asked : (found : Option Command) (status : ℕ) → IfSome found (λ c. TakesFiles content taken faults old new c status)
      → IfSome found (λ c. TakesInTurn (content old) c (taken_since (taken old) (taken new)) status)
  asked None status takes = tt
  asked (Some c) status takes = takes.asks

-- what was asked of the two files: all of it is there, unless the status is 4
module _ (old new : Held) (status : ℕ) where
  abbrev told_since : Bool
  told_since = are_told (content_of old.files) (taken_since old.taken new.taken)

  abbrev pub LacksOnlyAtFour : Type 0
  LacksOnlyAtFour = (status ≢ 4 → told_since ≡ true) × (status ≡ 4 → told_since ≡ false)

  there_or_not : (b : Bool) → old.faults ≡ 0 → (new.faults ≡ 0) ↔ (b ≡ true) → OnlyReads (λ (shelf : Held) name. content_of shelf.files name) (λ (shelf : Held). shelf.faults) old new status
      → (status ≢ 4 → b ≡ true) × (status ≡ 4 → b ≡ false)
  there_or_not b start fault reads = (
    λ other. elim (cases_eq new.faults old.faults) [
      | inl same ↦ fault.0 (same ∙ start)
      | inr rose ↦ absurd (other (reads.nowhere_else rose))
    ],
    λ four. elim (cases_Bool b) [
      | inl all ↦ absurd (omega (arith, start, fault.1 all, reads.fault four (λ top. omega (arith, start, top))))
      | inr lacks ↦ lacks
    ],
  )

  pub lacks_only_at_four : (found : Option Command) → (status ≡ 2) ↔ IsNone found → IfNone found (new ≡ old)
      → IfSome found (λ c. TakesFiles (λ (shelf : Held) name. content_of shelf.files name) (λ (shelf : Held). shelf.taken) (λ (shelf : Held). shelf.faults) old new c status)
      → old.taken ≡ [] → old.faults ≡ 0 → FailsOnlyAtAnother new → LacksOnlyAtFour
  lacks_only_at_four None words same takes none start fails =
      (λ _. ap (λ shelf. are_told (content_of old.files) (taken_since old.taken shelf.taken)) same ∙ ap (λ ts. are_told (content_of old.files) (taken_since ts ts)) none, λ four. absurd (omega (arith, four, words.1 refl)))
  lacks_only_at_four (Some c) words same takes none start fails =
      let whole : are_told (content_of new.files) new.taken ≡ told_since = ap (λ told. are_told told new.taken) (fun_ext takes.shelf.unchanged) ∙ ap (λ ts. are_told (content_of old.files) (taken_since ts new.taken)) (sym none) in
      there_or_not told_since start (λ e. sym whole ∙ fails.fault.0 e, λ all. fails.fault.1 (whole ∙ all)) takes.shelf

module _ (law : ToldLaw) (told : List ℕ → Option (List ℕ)) (first second : List ℕ) (same : (name : List ℕ) → told name ≡ given first second name) where
  -- the files that were taken may have the bytes that were handed over
  pub fits : (c : Command) (ts : List Taken) (status n : ℕ) → TakesInTurn told c ts status → length ts ≡ n → (files : List (List ℕ))
      → AllTold (given first second) (take n (files_of c)) files → AllFit ts files
  fits c ts status n asks count files all =
      let names : names_taken ts ≡ take n (files_of c) = asks.names ∙ ap (λ k. take k (files_of c)) count in
      law told ts files asks.agree
      (subst (λ f. AllTold f (names_taken ts) files) (sym (fun_ext same))
      (subst (λ ns. AllTold (given first second) ns files) (sym names) all))

  pub of_files : (c : Command) (ts : List Taken) (status : ℕ) (P : List (List ℕ) → Type 0) → TakesInTurn told c ts status → (status ≡ 0) ⊎ (status ≡ 1) ⊎ (status ≡ 5)
      → OfTaken ts P → OfFiles first second c P
  of_files c ts status P asks replied holds files all =
      holds files (fits c ts status (length (files_of c)) asks (asks.on_reply replied) files
      (subst (λ ns. AllTold (given first second) ns files) (sym (take-length (files_of c))) all))

  given_names : (ts : List Taken) → are_told told ts ≡ true → All IsGiven (names_taken ts)
  given_names [] all k d lt = absurd (omega (arith, lt))
  given_names (t ∷ ts) all zero d lt = is_given first second t.name (ap is_some (sym (same t.name)) ∙ (and_parts (is_some (told t.name)) (are_told told ts) all).0)
  given_names (t ∷ ts) all (suc k) d lt = given_names ts (and_parts (is_some (told t.name)) (are_told told ts) all).1 k d (omega (arith, lt))

  -- the files that were taken are among the two
  first_given : (c : Command) (ts : List Taken) (status n : ℕ) → TakesInTurn told c ts status → length ts ≡ n → are_told told ts ≡ true → All IsGiven (take n (files_of c))
  first_given c ts status n asks count all = subst (All IsGiven) (asks.names ∙ ap (λ k. take k (files_of c)) count) (given_names ts all)

  pub all_given : (found : Option Command) (ts : List Taken) (status : ℕ) → IfSome found (λ c. TakesInTurn told c ts status) → are_told told ts ≡ true → (status ≡ 0) ⊎ (status ≡ 1) ⊎ (status ≡ 5)
      → IfSome found (λ c. All IsGiven (files_of c))
  all_given None ts status takes all replied = tt
  all_given (Some c) ts status takes all replied = subst (All IsGiven) (take-length (files_of c)) (first_given c ts status (length (files_of c)) takes (takes.on_reply replied) all)

  -- what was taken and isn't among the two
  no_other : (t : Taken) → is_some (told t.name) ≡ false → IsGiven t.name → ⊥
  no_other t lacks given = false≢true (sym lacks ∙ ap is_some (same t.name) ∙ has_bytes first second t.name given)

  -- the files of a command are those that were taken, and others
  names_of : (c : Command) (ts : List Taken) (status : ℕ) → TakesInTurn told c ts status → files_of c ≡ names_taken ts ++ drop (length ts) (files_of c)
  names_of c ts status asks = sym (take-append-drop (length ts) (files_of c)) ∙ ap (λ names. names ++ drop (length ts) (files_of c)) (sym asks.names)

  at_first : (c : Command) (t : Taken) (rest : List (List ℕ)) → files_of c ≡ t.name ∷ rest → is_some (told t.name) ≡ false → IsFirstAnother first second c 0 t.name
  at_first c t rest names lacks =
      record {
        next = (rest, names);
        another = no_other t lacks;
        given = λ k d lt. absurd (omega (arith, lt));
        taken = of_none;
      }
    where
      of_none : (files : List (List ℕ)) → AllTold (given first second) [] files → refusal_of c files ≡ None
      of_none [] all = refl
      of_none (_ ∷ _) all = absurd all

  at_second : (c : Command) (t u : Taken) (status : ℕ) → TakesInTurn told c (t ∷ u ∷ []) status → is_some (told t.name) ≡ true → is_some (told u.name) ≡ false → IsFirstAnother first second c 1 u.name
  at_second c t u status asks there lacks =
      let names = names_of c (t ∷ u ∷ []) status asks in
      let front : take 1 (files_of c) ≡ t.name ∷ [] = ap (take 1) names in
      record {
        next = (drop 2 (files_of c), ap (drop 1) names);
        another = no_other u lacks;
        given = subst (All IsGiven) (sym front) (given_names (t ∷ []) (ap (λ b. b && true) there));
        taken = λ files all. asks.in_turn (omega arith) files (law told (t ∷ []) files (asks.agree.0, tt)
            (subst (λ f. AllTold f (t.name ∷ []) files) (sym (fun_ext same)) (subst (λ ns. AllTold (given first second) ns files) front all)));
      }

  behind : (c : Command) (t : Taken) (ts : List Taken) (status : ℕ) → TakesInTurn told c (t ∷ ts) status → is_some (told t.name) ≡ true → are_told told ts ≡ false
      → (before : ℕ) × (name : List ℕ) × IsFirstAnother first second c before name
  behind c t [] status asks there lacks = absurd (false≢true (sym lacks))
  behind c t (u ∷ []) status asks there lacks = elim (cases_Bool (is_some (told u.name))) [
    | inl also ↦ absurd (false≢true (sym lacks ∙ ap (λ b. b && true) also))
    | inr none ↦ (1, u.name, at_second c t u status asks there none)
  ]
  behind c t (u ∷ v ∷ ts) status asks there lacks = absurd (omega (arith, asks.few, few_files c))

  first_another : (c : Command) (ts : List Taken) (status : ℕ) → TakesInTurn told c ts status → are_told told ts ≡ false → (before : ℕ) × (name : List ℕ) × IsFirstAnother first second c before name
  first_another c [] status asks lacks = absurd (false≢true (sym lacks))
  first_another c (t ∷ ts) status asks lacks = elim (cases_Bool (is_some (told t.name))) [
    | inl there ↦ behind c t ts status asks there (ap (λ b. b && are_told told ts) (sym there) ∙ lacks)
    | inr none ↦ (0, t.name, at_first c t (names_taken ts ++ drop (length (t ∷ ts)) (files_of c)) (names_of c (t ∷ ts) status asks) none)
  ]

  pub another : (found : Option Command) (ts : List Taken) (status : ℕ) → IfSome found (λ c. TakesInTurn told c ts status) → are_told told ts ≡ false
      → IfSome found (λ c. (before : ℕ) × (name : List ℕ) × IsFirstAnother first second c before name)
  another None ts status takes lacks = tt
  another (Some c) ts status takes lacks = first_another c ts status takes lacks

  pub refused_at : (c : Command) (ts : List Taken) (status which : ℕ) (refusal : Refusal) → TakesInTurn told c ts status → are_told told ts ≡ true → EndsAtRefusal c ts which refusal
      → IsFirstRefused first second c which refusal
  refused_at c ts status which refusal asks all ends =
      record {
        from = ends.from;
        to = ends.to;
        given = first_given c ts status which asks ends.last all;
        first_one = λ files told_all. ends.first files (fits c ts status which asks ends.last files told_all);
      }

  with_files : (found : Option Command) (ts : List Taken) (status which : ℕ) (refusal : Refusal) → IfSome found (λ c. TakesInTurn told c ts status) → are_told told ts ≡ true
      → IfSome found (λ c. EndsAtRefusal c ts which refusal) → IfSome found (λ c. IsFirstRefused first second c which refusal)
  with_files None ts status which refusal takes all ends = tt
  with_files (Some c) ts status which refusal takes all ends = refused_at c ts status which refusal takes all ends

  pub line_for : (found : Option Command) (ts : List Taken) (status : ℕ) (line : List ℕ) → IsLineOf found ts status line → IfSome found (λ c. TakesInTurn told c ts status)
      → (status ≢ 4 → are_told told ts ≡ true) → IsLineFor found first second status line
  line_for found ts status line is takes all =
      record {
        outside = is.words;
        refused = λ three. let r = is.refused three in (r.0, r.1, r.2, with_files found ts status r.0 r.1 takes (all (λ four. three_not_four (sym three ∙ four))) r.3);
        read_fault = is.read_fault;
        no_memory = is.no_memory;
      }

  pub reply : (found : Option Command) (ts : List Taken) (status : ℕ) (text : List ℕ) → IfSome found (λ c. TakesInTurn told c ts status) → IfSome found (λ c. WritesOut ts c (Some []) (Some text) status)
      → (status ≡ 0) ⊎ (status ≡ 1) → IfSome found (λ c. OfFiles first second c (λ files. Replies c files status text))
  reply None ts status text takes written either = tt
  reply (Some c) ts status text takes written either =
      of_files c ts status _ takes (elim either [ inl none ↦ inl none | inr one ↦ inr (inl one) ])
      (λ files fit. let w = written.whole either files fit in subst (λ t. Replies c files status t) (sym w.2) w.1)

  promised : PromiseLaw → (found : Option Command) (status : ℕ) (text : List ℕ) → IfSome found (λ c. OfFiles first second c (λ files. Replies c files status text))
      → IfSome found (λ c. OfFiles first second c (λ files. IsPromised c files status text))
  promised keeps None status text replied = tt
  promised keeps (Some c) status text replied = λ files all. keeps c files status text (replied files all)

  -- what a run left
  module _ (keeps : PromiseLaw) (found : Option Command) (ts : List Taken) (status : ℕ) (text line : List ℕ)
      (words : (status ≡ 2) ↔ IsNone found) (range : status ≤ 6)
      (takes : IfSome found (λ c. TakesInTurn told c ts status))
      (all : status ≢ 4 → are_told told ts ≡ true) (lacks : status ≡ 4 → are_told told ts ≡ false)
      (written : IfSome found (λ c. WritesOut ts c (Some []) (Some text) status))
      (unwritten : (status ≡ 2) ⊎ (status ≡ 3) ⊎ (status ≡ 4) ⊎ (status ≡ 6) → text ≡ [])
      (quiet : (status ≡ 0) ⊎ (status ≡ 1) → line ≡ [])
      (offered : 2 ≤ status → (l : List ℕ) × IsLineOf found ts status l × Offers (Some []) (Some line) 0 0 l)
      (done : status ≢ 5) where
    -- a line at which no write failed is there whole
    whole_line : (l : List ℕ) → Offers (Some []) (Some line) 0 0 l → line ≡ l
    whole_line l offers = elim offers.added [ inl all ↦ all | inr part ↦ absurd (omega (arith, part.1 (λ top. omega (arith, top)))) ]

    outside : (o : Option Command) → ((status ≡ 2) ↔ IsNone o) → IfNone o ((status ≡ 2) ⊎ (status ≡ 6))
    outside None both = inl (both.1 refl)
    outside (Some c) both = tt

    pub whole : IsWholeRun found first second status text line
    whole = record {
      range = (range, done);
      grammar = words.0;
      outside = outside found words;
      given = λ either. all_given found ts status takes (all (reply_not_four either)) (reply_is_one either);
      reply = reply found ts status text takes written;
      promise = λ either. promised keeps found status text (reply found ts status text takes written either);
      another = λ four. another found ts status takes (lacks four);
      unwritten = λ more. unwritten (is_other status range done more);
      quiet = quiet;
      said = λ more. let o = offered more in subst (λ l. IsLineFor found first second status l) (sym (whole_line o.0 o.2)) (line_for found ts status o.0 o.1 takes all);
    }
