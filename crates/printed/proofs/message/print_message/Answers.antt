-- `print_message`: no room, or the message. Assumes nothing.
use Rattle.printed.proofs.MessageCall.{long-name, many-words, little-room, message-printed}
use Rattle.printed.proofs.message.print_message.Goals as goal
use Rattle.printed.proofs.message.print_message.Goals.{then-name-gt-MOST_NAME-via-then-name-gt-MOST_NAME, then-name-gt-MOST_NAME-via-else-name-gt-MOST_NAME+then-words-gt-MOST_WORDS, then-name-gt-MOST_NAME-via-else-name-gt-MOST_NAME+else-words-gt-MOST_WORDS+then-into-lt-MOST_MESSAGE}

pub returns-then-name-gt-MOST_NAME : goal.returns-then-name-gt-MOST_NAME
returns-then-name-gt-MOST_NAME c =
    elim c.then-name-gt-MOST_NAME.branch [
      | then-name-gt-MOST_NAME-via-then-name-gt-MOST_NAME w ↦ long-name c.args.name.now c.args.words.now c.args.into.now w.if-name-gt-MOST_NAME.true
      | then-name-gt-MOST_NAME-via-else-name-gt-MOST_NAME+then-words-gt-MOST_WORDS w ↦
          many-words c.args.name.now c.args.words.now c.args.into.now w.if-name-gt-MOST_NAME.false w.if-words-gt-MOST_WORDS.true
      | then-name-gt-MOST_NAME-via-else-name-gt-MOST_NAME+else-words-gt-MOST_WORDS+then-into-lt-MOST_MESSAGE w ↦
          little-room c.args.name.now c.args.words.now c.args.into.now w.if-name-gt-MOST_NAME.false w.if-words-gt-MOST_WORDS.false w.if-into-lt-MOST_MESSAGE.true
    ]

pub returns : goal.returns
returns c = message-printed c.args.name.now c.args.words.now c.args.into.now c.if-name-gt-MOST_NAME.false c.if-words-gt-MOST_WORDS.false c.if-into-lt-MOST_MESSAGE.false _ _ _ c.put_message.ensures
