-- The container itself; of a dictionary then its keys.
use Rattle.std.proofs.Common.{◌∙◌}
use Rattle.writer.proofs.Container.{box_small, box_start, box_number, box_place, box_off, box_arr, box_dic, array_listed, array_grown, dictionary_paired, dictionary_keys, dictionary_grown}
use Rattle.writer.proofs.put.put_container.Goals as goal

pub number_of-number-requires : goal.number_of-number-requires
number_of-number-requires c =
    let (o, (k, r, d, s)) = c.requires in
    (o.stand.indexed.long, o.within, box_number o k r d)

pub set_word-requires : goal.set_word-requires
set_word-requires c =
    let (o, (k, r, d, s)) = c.requires in
    (box_place o k r d c.number_of-number.ensures, box_small o)

-- where the container begins on the tape, and which kind it is
pub bounds-events-at : goal.bounds-events-at
bounds-events-at c =
    let (o, (k, r, d, s)) = c.requires in
    rw (c.word-at.ensures.0 ∙ box_off o k r d c.number_of-number.ensures c.set_word.ensures) (box_start o)

pub put_array-requires : goal.put_array-requires
put_array-requires c =
    let (o, (k, r, d, s)) = c.requires in
    let at = c.number_of-number.ensures in
    let q = c.set_word.ensures in
    let e = box_arr o k r d (c.word-at.ensures.0 ∙ box_off o k r d at q) c.if-events-at-lt12.true in
    (_, array_listed o r e at q s)

pub returns-then-events-at-lt12 : goal.returns-then-events-at-lt12
returns-then-events-at-lt12 c =
    let (o, (k, r, d, s)) = c.requires in
    let at = c.number_of-number.ensures in
    let q = c.set_word.ensures in
    let e = box_arr o k r d (c.word-at.ensures.0 ∙ box_off o k r d at q) c.if-events-at-lt12.true in
    array_grown o r e at q (c.put_array.ensures _ (array_listed o r e at q s))

pub put_dictionary-keys-requires : goal.put_dictionary-keys-requires
put_dictionary-keys-requires c =
    let (o, (k, r, d, s)) = c.requires in
    let at = c.number_of-number.ensures in
    let q = c.set_word.ensures in
    let e = box_dic o k r d (c.word-at.ensures.0 ∙ box_off o k r d at q) c.if-events-at-lt12.false in
    (_, _, dictionary_paired o r e at q s)

pub put_keys-requires : goal.put_keys-requires
put_keys-requires c =
    let (o, (k, r, d, s)) = c.requires in
    let at = c.number_of-number.ensures in
    let q = c.set_word.ensures in
    let e = box_dic o k r d (c.word-at.ensures.0 ∙ box_off o k r d at q) c.if-events-at-lt12.false in
    (_, _, _, dictionary_keys o r e at q s (c.put_dictionary-keys.ensures _ _ (dictionary_paired o r e at q s)))

pub returns : goal.returns
returns c =
    let (o, (k, r, d, s)) = c.requires in
    let at = c.number_of-number.ensures in
    let q = c.set_word.ensures in
    let e = box_dic o k r d (c.word-at.ensures.0 ∙ box_off o k r d at q) c.if-events-at-lt12.false in
    let f = c.put_dictionary-keys.ensures _ _ (dictionary_paired o r e at q s) in
    dictionary_grown o r e at q s f (c.put_keys.ensures _ _ _ (dictionary_keys o r e at q s f))
