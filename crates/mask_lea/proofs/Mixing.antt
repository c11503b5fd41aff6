-- Two words, each xored with one of the round key, added up: what that keeps.
use Rattle.std.proofs.Common.{ℕ, ◌+◌, List}
use Rattle.mask_circuit.specs.Netlist.{Netlist, value_count}
use Rattle.mask_parts.specs.Words32.{with_xor32, xor32_results}
use Rattle.mask_parts.proofs.Passing.{IsSound, Passes, Passes-trans}
use Rattle.mask_parts.proofs.WordPassing.{IsWord, IsWord-later, Passes-xor32, Passes-sum32, word-xor32, word-sum32}
use Rattle.mask_lea.specs.Rounds.{with_mixed, mixed_results}

module _ (T : Type 0) (c : Netlist) (x k y l : List ℕ) (sound : IsSound T c) (x_is : IsWord T c x) (k_is : IsWord T c k) (y_is : IsWord T c y) (l_is : IsWord T c l) where
  abbrev left : Netlist
  left = with_xor32 c x k

  abbrev right : Netlist
  right = with_xor32 left y l

  first : Passes T c left 32 0
  first = Passes-xor32 T c x k sound x_is k_is

  second : Passes T left right 32 0
  second = Passes-xor32 T left y l first.sound (IsWord-later T c left 32 0 y first y_is) (IsWord-later T c left 32 0 l first l_is)

  both_passes : Passes T c right 64 0
  both_passes = Passes-trans T c left right 32 0 32 0 first second

  left_word : IsWord T right (xor32_results (value_count c))
  left_word = IsWord-later T left right 32 0 _ second (word-xor32 T c x k sound x_is k_is)

  right_word : IsWord T right (xor32_results (value_count c + 32))
  right_word = rw first.adds.values at (word-xor32 T left y l first.sound (IsWord-later T c left 32 0 y first y_is) (IsWord-later T c left 32 0 l first l_is))

  pub Passes-mixed : Passes T c (with_mixed c x k y l) 249 31
  unfolding with_mixed
  Passes-mixed = Passes-trans T c right _ 64 0 185 31 both_passes (Passes-sum32 T right _ _ second.sound left_word right_word)

  pub word-mixed : IsWord T (with_mixed c x k y l) (mixed_results (value_count c))
  unfolding with_mixed mixed_results
  word-mixed = rw both_passes.adds.values at (word-sum32 T right _ _ second.sound left_word right_word)
