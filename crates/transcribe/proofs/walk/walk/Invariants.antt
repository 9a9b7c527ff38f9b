-- `walk` is what is left of the run from its first call: every turn takes one event of it.
use mathlib.Core.Path.{◌≡◌}
use Prim.Native.Nat.{◌≤◌}
use lib.ListN.{length, replicate, take}
use Rattle.layout.specs.Frame.{no_frame}
use Rattle.layout.specs.Layout.{look_of}
use Rattle.reader.specs.Machine.{arrive}
use Rattle.reader.specs.State.{max_open}
use Rattle.reader.specs.Next.{laid_out}
use Rattle.transcribe.specs.Run.{onward}
use Rattle.transcribe.specs.Walk.{Below}
use Rattle.transcribe.proofs.Listed.{Listed}
use Rattle.transcribe.proofs.Walking.{Stands, left_of}
use Rattle.transcribe.proofs.walk.walk.Given as goal

abbrev pub invariant-loop-left : goal.invariant-loop-left
invariant-loop-left l = record {
  fits : l.depth ≤ max_open;
  first : l.depth ≡ 0 → l.frames ≡ replicate max_open no_frame;
  is : left_of l.file l.layout l.root l.left l.scratch l.tape l.held l.place l.depth l.frames ≡ onward l.budget l.file l.initial.scratch l.initial.tape l.initial.held (arrive (laid_out l.file l.layout) l.root (look_of l.file l.layout l.root));
  long : length l.frames ≡ max_open;
  stands : Stands l.file l.layout l.standing l.depth l.frames;
  many : length l.numbers ≡ max_open;
  listed : Listed l.depth l.frames l.numbers;
  below : Below l.above (take l.depth l.numbers);
}
