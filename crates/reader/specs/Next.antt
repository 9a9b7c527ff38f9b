-- One call of a reader, on any file and any state. docs/FORMAT.md, rules R6, R7 and R18 to R24.
use Rattle.std.specs.Prelude.{false, cond, not, ◌&&◌, List, [], ℕ, ltb, eqb, length, replicate, None, Option, Some}
use Rattle.number.specs.Width.{bytes_in, width_of}
use Rattle.number.specs.declared.width.Width.{Width}
use Rattle.layout.specs.Layout.{look_of, source_of}
use Rattle.layout.specs.Frame.{no_frame}
use Rattle.layout.specs.Trailer.{Trailer, keeps, ends, lays, trailer_of}
use Rattle.layout.specs.declared.layout.Layout.{Layout}
use Rattle.reader.specs.Machine.{Step, ended, refused, step, refuse, wrong_file, arrive, step_of}
use Rattle.reader.specs.State.{max_open, max_length}
use Rattle.reader.specs.declared.state.Reader.{Reader}

-- 1 leaves the state as it was (R24)
abbrev pub too_long : Reader → Step
too_long r = step r (refused 1 [] 0)

-- a reader that has read a trailer and opened nothing; its place is the table's offset, which was sought last
unfoldable pub laid_out : List ℕ → Layout → Reader
laid_out file l = record { fresh = false; length = length file; offsets = bytes_in l.offsets; refs = bytes_in l.refs; count = l.count; table = l.table; place = l.table; depth = 0; frames = replicate max_open no_frame }

-- the first call: the trailer, then the root
unfoldable pub begin : List ℕ → Reader → Trailer → Step
begin file r (keeps number values place) = step r (refused number values place)
begin file r (ends number values place) = refuse number values place
begin file r (lays l root) = arrive (laid_out file l) root (look_of file l root)

-- any other call, where the sizes are allowed ones
unfoldable pub with_refs : List ℕ → Reader → Width → Option Width → Step
with_refs file r offsets (Some refs) = step_of (source_of file (record { offsets = offsets; refs = refs; count = r.count; table = r.table })) r
with_refs file r offsets None = wrong_file r

unfoldable pub go_on : List ℕ → Reader → Option Width → Option Width → Step
go_on file r (Some offsets) refs = with_refs file r offsets refs
go_on file r None refs = wrong_file r

-- the order of R21
unfoldable pub next_of : List ℕ → Reader → Step
next_of file r =
    cond (not r.fresh && eqb r.depth 0) (step r ended)
    (cond (ltb max_length (length file)) (too_long r)
    (cond r.fresh (begin file r (trailer_of file))
    (cond (not (eqb r.length (length file))) (wrong_file r)
    (cond (ltb max_open r.depth) (wrong_file r)
    (go_on file r (width_of r.offsets) (width_of r.refs))))))
