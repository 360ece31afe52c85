-- What reading and writing promise: the numbers returned, each place of the buffer, and the way back.
use Rattle.std.specs.Prelude.{ℕ, ◌+◌, ◌*◌, ◌≤◌, Bool, List, [], ◌∷◌, ◌++◌, ◌≡◌, length, take, drop, Ok}
use Rattle.refusals.specs.Reply.{reply_of, buffer_after, done}
use Rattle.list_format.specs.Lists.{counts}
use Rattle.list_format.specs.Read.{Reading, reading, read_reply}
use Rattle.list_format.specs.Write.{Writing, given_count, writing_by, writing, write_reply}

-- the words ws were read into a buffer that held `was` and holds `now`
pub record ReadAs (ws was now : List ℕ) (r : Reading) : Type 0 where
  pub reply : read_reply r ≡ reply_of (reading ws (length was))
  pub stored : now ≡ buffer_after (reading ws (length was)) was
  -- what was read, written again, is the list word for word
  pub back : (n m : ℕ) → r ≡ Ok (counts n m) → (room : ℕ) → length ws ≤ room
      → writing n (take (4 * m) now) (take (2 * n) (drop (4 * m) now)) room ≡ done (length ws ∷ []) ws

-- the numbers xs of the pairs and the needs ys of n registers were written into a buffer that held `was` and holds `now`, with the order of
-- the pairs asked for or not
pub record WrittenBy (asked : Bool) (n : ℕ) (xs ys was now : List ℕ) (r : Writing) : Type 0 where
  pub reply : write_reply r ≡ reply_of (writing_by asked n xs ys (length was))
  pub stored : now ≡ buffer_after (writing_by asked n xs ys (length was)) was

-- the same with the order asked for
pub record WrittenAs (n : ℕ) (xs ys was now : List ℕ) (r : Writing) : Type 0 where
  pub reply : write_reply r ≡ reply_of (writing n xs ys (length was))
  pub stored : now ≡ buffer_after (writing n xs ys (length was)) was
  -- what was written, read again, gives the same count of registers, the same numbers and the same needs
  pub back : (count : ℕ) → r ≡ Ok count → (room : ℕ) → length xs + length ys ≤ room
      → reading (take count now) room ≡ done (n ∷ given_count xs ∷ []) (xs ++ ys)
