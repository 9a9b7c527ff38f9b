-- Events with their lengths filled in, and the answers that a reader is to give for them.
use Rattle.std.specs.Prelude.{List, [], ◌∷◌, map, ℕ, suc, ◌/◌, length, Some}
use Rattle.event.specs.Meaning.{Meaning, array, dictionary, close, boolean, bytes, date, integer, real, text, uid}
use Rattle.event.specs.declared.Event.{Event}
use Rattle.event.specs.declared.Event.TheVariants.{EndCollection}
use Rattle.layout.specs.Looked.{Shape, Looked, barred, missing, faulty, scalar, container, start_of}
use Rattle.reader.specs.Machine.{Said, Origin, origin, event_at}
use Rattle.layout.specs.Looked as shape
use Rattle.transcribe.specs.TranscriptLaws.{Put}
use Rattle.written.specs.File.{place_of}
use Rattle.written.specs.Graph.{Scalar, Kind, arr, dic, Piece, start, end, piece_of, Name, val, box, kids, number, meant}
use Rattle.written.specs.Graph as graph
use Rattle.written.specs.Weigh.{counted}

-- how many values come before the end of the container that is open
unfoldable pub members : List Meaning → ℕ
members ms = length (kids 0 0 (map piece_of ms))

-- a container has its number of elements or of pairs, whatever was given
unfoldable pub filled : List Meaning → List Meaning
filled [] = []
filled (array given ∷ ms) = array (Some (members ms)) ∷ filled ms
filled (dictionary given ∷ ms) = dictionary (Some (members ms / 2)) ∷ filled ms
filled (close ∷ ms) = close ∷ filled ms
filled (boolean b ∷ ms) = boolean b ∷ filled ms
filled (bytes s ∷ ms) = bytes s ∷ filled ms
filled (date b ∷ ms) = date b ∷ filled ms
filled (integer z ∷ ms) = integer z ∷ filled ms
filled (real b ∷ ms) = real b ∷ filled ms
filled (text s ∷ ms) = text s ∷ filled ms
filled (uid n ∷ ms) = uid n ∷ filled ms

-- the events from n on, with the places of the open containers: what they mean, each with the offset of its object; an end has its container's
unfoldable pub handed_from : (Name → ℕ) → ℕ → List ℕ → List Piece → List Put
handed_from at n ps [] = []
handed_from at n ps (graph.scalar s ∷ es) = record { meaning = meant s; offset = at (val s) } ∷ handed_from at (suc n) ps es
handed_from at n ps (start arr ∷ es) = record { meaning = array (Some (length (kids 0 (suc n) es))); offset = at (box n) } ∷ handed_from at (suc n) (n ∷ ps) es
handed_from at n ps (start dic ∷ es) = record { meaning = dictionary (Some (length (kids 0 (suc n) es) / 2)); offset = at (box n) } ∷ handed_from at (suc n) (n ∷ ps) es
handed_from at n [] (end ∷ es) = []
handed_from at n (p ∷ ps) (end ∷ es) = record { meaning = close; offset = at (box p) } ∷ handed_from at (suc n) ps es

-- what the reader is to hand out of the file of some events
unfoldable pub handed_of : List Meaning → List Put
handed_of ms = handed_from (place_of (map piece_of ms)) 0 [] (map piece_of ms)

-- where the events of an object come from: its number, and its offset
abbrev pub origin_of : List Piece → (Name → ℕ) → Name → Origin
origin_of es at x = origin (number es x) (at x)

-- the same as the reader's own events, those of scalars given, each with where it comes from
abbrev pub shape_of : Kind → Shape
shape_of arr = shape.array
shape_of dic = shape.dictionary

unfoldable pub said_from : (Scalar → Event) → (Name → Origin) → ℕ → List ℕ → List Piece → List Said
said_from by at n ps [] = []
said_from by at n ps (graph.scalar s ∷ es) = event_at (by s) (at (val s)) ∷ said_from by at (suc n) ps es
said_from by at n ps (start k ∷ es) = event_at (start_of (shape_of k) (counted k (length (kids 0 (suc n) es)))) (at (box n)) ∷ said_from by at (suc n) (n ∷ ps) es
said_from by at n [] (end ∷ es) = []
said_from by at n (p ∷ ps) (end ∷ es) = event_at EndCollection (at (box p)) ∷ said_from by at (suc n) ps es

-- the event of a scalar that is looked up
unfoldable pub event_in : Looked → Event
event_in (barred number values) = EndCollection
event_in missing = EndCollection
event_in (faulty number values offset) = EndCollection
event_in (scalar e offset) = e
event_in (container s n offset) = EndCollection
