-- A command line that was read, without where its words lie in memory.
use Rattle.actx_cli.specs.declared.words.Words.{Words}
use Rattle.actx_cli.specs.declared.words.Words.TheVariants as words
use Rattle.actx_cli.specs.declared.words.Feed.{Feed}
use Rattle.actx_cli.specs.declared.words.Feed.TheVariants as feed
use Rattle.actx_cli.specs.Words.{Command, Run, Given}
use Rattle.actx_cli.specs.Words as spec

abbrev pub feed_of : Feed → spec.Feed
feed_of feed.Given = Given

abbrev pub command : Words → Command
command (words.Run steps feed file) = Run steps (feed_of feed) file.now
