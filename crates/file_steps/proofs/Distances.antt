-- A table of distances has fewer numbers than there are bytes, and no more ones in its balls than items for each number.
use Rattle.std.proofs.Common.{◌≡◌, ℕ, zero, suc, ◌+◌, ◌*◌, ◌≤◌, List, [], ◌∷◌, length, map, nat_le, sum_by, ap, arith, length-append}
use Rattle.std.specs.List.{concat}
use Rattle.std.proofs.lemmas.List.{length-map}
use Rattle.std.proofs.lemmas.List.Sums.{sum_by-cons, sum_by-append}
use Rattle.row_model.specs.declared.TheConstants.{MAX_ITEMS}
use Rattle.text_lines.specs.FirstRefusal.{filled_of}
use Rattle.text_lines.specs.Heads.{size_given}
use Rattle.text_lines.specs.Lines.{NumberedLine}
use Rattle.text_lines.specs.Words.{words_of, numeral_of, numbers_in}
use Rattle.graph_model.specs.Distances.{DistancesValue}
use Rattle.graph_read.specs.Numbers.{value_of}
use Rattle.graph_read.specs.DistanceRows.{distances_in, rows_in}
use Rattle.graph_read.specs.DistanceFiles.{table_refusal, table_written, distances_sized, distances}
use Rattle.robinson_balls.specs.Balls.{between, ball, radii, balls_round, balls_to}
use Rattle.command_input.specs.Instances.{IfRead}
use Rattle.file_steps.proofs.Dense.{where_short}
use Rattle.file_steps.proofs.Found.{within_read, refused_read, filled_read}
use Rattle.file_steps.proofs.Lines.{line_room, filled_short, filled_all, words_short}

-- twice the numbers are fewer than so many
abbrev pub HasFewNumbers : ℕ → DistancesValue → Type 0
HasFewNumbers n d = 2 * length d.values + 1 ≤ n

numbers_short : (lines : List NumberedLine) → 2 * length (concat (rows_in lines)) ≤ sum_by line_room lines
numbers_short [] = omega arith
numbers_short (line ∷ lines) =
    omega (
      arith,
      length-append (distances_in (words_of line.text)) (concat (rows_in lines)),
      length-map (words_of line.text) (λ word. value_of (numeral_of word)),
      words_short line.text,
      sum_by-cons line_room line lines,
      numbers_short lines,
    )

sized_few : (items n : ℕ) (lines : List NumberedLine) → sum_by line_room lines + 1 ≤ n → IfRead (distances_sized items lines) (HasFewNumbers n)
sized_few items n lines room =
    refused_read (HasFewNumbers n) (table_refusal items lines) (table_written items lines) (λ none. omega (arith, room, numbers_short lines))

pub distances_few : (bytes : List ℕ) → IfRead (distances bytes) (HasFewNumbers (length bytes))
unfolding distances
distances_few bytes =
    within_read (HasFewNumbers (length bytes)) bytes _
    (filled_read (HasFewNumbers (length bytes)) (λ line. size_given MAX_ITEMS (numbers_in line)) distances_sized (filled_of bytes) (length bytes) (filled_all bytes) (filled_short bytes)
    (λ items lines. sized_few items (length bytes) lines))

-- no ball has more items than there are
round_ones : (d : DistancesValue) (x : ℕ) (radii : List ℕ) → sum_by length (map (ball d x) radii) ≤ length (map (ball d x) radii) * d.items
round_ones d x [] = omega arith
round_ones d x (radius ∷ radii) =
    omega (arith, sum_by-cons length (ball d x radius) (map (ball d x) radii), where_short d.items (λ y. nat_le (between d x y) radius), round_ones d x radii)

pub ball_ones : (d : DistancesValue) (n : ℕ) → sum_by length (balls_to d n) ≤ length (balls_to d n) * d.items
ball_ones d zero = omega arith
ball_ones d (suc n) =
    let many : length (balls_to d (suc n)) ≡ length (balls_to d n) + length (balls_round d (suc n)) = length-append (balls_to d n) (balls_round d (suc n)) in
    let all : length (balls_to d (suc n)) * d.items ≡ (length (balls_to d n) + length (balls_round d (suc n))) * d.items = ap (λ k. k * d.items) many in
    omega (arith, all, sum_by-append length (balls_to d n) (balls_round d (suc n)), round_ones d (suc n) (radii d (suc n)), ball_ones d n)
