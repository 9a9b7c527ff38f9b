-- Call after call: a reader called on one file again and again, each time with the state that the call before left. docs/FORMAT.md, R18.
use Rattle.std.specs.Prelude.{List, [], ◌∷◌, map, ℕ, zero, suc}
use Rattle.reader.specs.Machine.{Said, Step}
use Rattle.reader.specs.Next.{next_of}
use Rattle.reader.specs.State.{fresh_reader}
use Rattle.reader.specs.declared.state.Reader.{Reader}

-- THE CALLS: n of them on a file, from a state on; each with the state that it leaves and its answer
unfoldable pub calls : ℕ → List ℕ → Reader → List Step
calls zero file r = []
calls (suc n) file r = next_of file r ∷ calls n file (next_of file r).state

-- what they answer
abbrev pub answers_of : List Step → List Said
answers_of ss = map (λ (s : Step). s.answer) ss

-- the state that is left by calls from a state on: the last one's
unfoldable pub left_by : Reader → List Step → Reader
left_by r [] = r
left_by r (s ∷ ss) = left_by s.state ss

-- the state after n calls
unfoldable pub after : ℕ → List ℕ → Reader → Reader
unfolding calls left_by
after n file r = left_by r (calls n file r)

-- of a fresh reader: the state after n calls, and the answer of the call that n calls went before
unfoldable pub runs : List ℕ → ℕ → Reader
unfolding after
runs file n = after n file fresh_reader

unfoldable pub answer_of : List ℕ → ℕ → Said
answer_of file n = (next_of file (runs file n)).answer
