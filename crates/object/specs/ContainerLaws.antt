-- Laws of containers: at or above T there is none; below it, the marker decides.
use Rattle.std.specs.Prelude.{List, ◌≡◌, ℕ, ◌≤◌, ◌<◌, get_or}
use Rattle.std.proofs.Common.{lt-ltb, le-ltb}
use Rattle.object.specs.Container.{container_of, container_at}
use Rattle.object.specs.Content.{trailer_at}
use Rattle.object.specs.Kind.{kind_of}
use Rattle.object.specs.declared.container.Container.TheVariants.{NoContainer}

pub container_outside : (file : List ℕ) (offset : ℕ) → trailer_at file ≤ offset → container_at file offset ≡ NoContainer
unfolding container_at
container_outside file offset h = rw (le-ltb _ _ h)

pub container_inside : (file : List ℕ) (offset : ℕ) → offset < trailer_at file → container_at file offset ≡ container_of file offset (kind_of (get_or file offset 0))
unfolding container_at
container_inside file offset h = rw (lt-ltb _ _ h)
