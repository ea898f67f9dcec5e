-- Lists of nodes, each named by its number.
use Rattle.std.specs.Prelude.{ℕ, if◌then◌else◌, ◌==◌, ◌||◌, List, [], ◌∷◌, ◌++◌, reverse}

-- the number that names no node
abbrev pub none : ℕ
none = 4294967295

-- the first of the list, or d where the list is empty
abbrev pub head_or : List ℕ → ℕ → ℕ
head_or [] d = d
head_or (x ∷ xs) d = x

-- the last of the list, or d where the list is empty
abbrev pub last_or : List ℕ → ℕ → ℕ
last_or [] d = d
last_or (x ∷ xs) d = last_or xs x

-- the list without n
abbrev pub without : List ℕ → ℕ → List ℕ
without [] n = []
without (x ∷ xs) n = if x == n then without xs n else x ∷ without xs n

-- the list with m in the place of n
abbrev pub with_replaced : List ℕ → ℕ → ℕ → List ℕ
with_replaced [] n m = []
with_replaced (x ∷ xs) n m = (if x == n then m else x) ∷ with_replaced xs n m

-- the list without its first
abbrev pub all_but_first : List ℕ → List ℕ
all_but_first [] = []
all_but_first (x ∷ xs) = xs

-- the list with its end 0, the first, or its end 1, the last, in front
abbrev pub oriented : ℕ → List ℕ → List ℕ
oriented first ks = if first == 0 then ks else reverse ks

-- the list with n put on at its end 0 or its end 1
abbrev pub put_on : ℕ → ℕ → List ℕ → List ℕ
put_on end n ks = if end == 0 then n ∷ ks else ks ++ n ∷ []

-- The parent that a child of the Q-node q holds, by the nodes before and after it: q at an end of the list, else none.
abbrev pub end_parent : ℕ → ℕ → ℕ → ℕ
end_parent q before after = if before == none || after == none then q else none
